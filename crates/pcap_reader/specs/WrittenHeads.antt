-- The headers of a classic pcap file and of its packet records (pcap-savefile(5)), little-endian with nanosecond
-- timestamps.
use Rattle.std.specs.Prelude.{ℕ, ◌/◌, ◌%◌, List, ◌++◌}
use Rattle.byteorder.specs.Endian.{little_bytes}

-- the file header: nanoseconds, version 2.4, zone and sigfigs 0, snaplen 262,144, link type Ethernet; 24 bytes
abbrev pub file_head : List ℕ
file_head =
    little_bytes 4 0xa1b23c4d
    ++ little_bytes 2 2
    ++ little_bytes 2 4
    ++ little_bytes 4 0
    ++ little_bytes 4 0
    ++ little_bytes 4 262144
    ++ little_bytes 4 1

-- the header of a packet record: seconds and nanoseconds of a capture timestamp given in nanoseconds, and captured
-- and original length; 16 bytes
abbrev pub record_head : ℕ → ℕ → List ℕ
record_head stamp len =
    little_bytes 4 (stamp / 1000000000)
    ++ little_bytes 4 (stamp % 1000000000)
    ++ little_bytes 4 len
    ++ little_bytes 4 len
