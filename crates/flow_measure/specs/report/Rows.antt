-- The rows of a flow, one per packet or one per frame or field, as comma-separated values (RFC 4180): a header first,
-- and a line feed alone at the end of each row. No field needs quotes. Runs and packet records count from 1; packets,
-- frames, fields and places in them from 0. Capture timestamps, `first` and `last` are nanoseconds. `timestamp`,
-- `step`, `offset` and `latency` are ticks of 90 kHz. `bucket` and the columns of the buffer, `gapped` and `linear`,
-- are packets. This project's profile: the columns.
use Rattle.std.specs.Prelude.{ℕ, ℤ, List, ◌++◌, Option, Some, None, codes}
use Rattle.std.specs.Fmt.{decimal, signed_decimal}
use Rattle.flow_measure.specs.declared.report.rows.GroupRow.{GroupRow}
use Rattle.flow_measure.specs.declared.report.rows.PacketRow.{PacketRow}

-- a field, and the comma after it
abbrev pub field : ℕ → List ℕ
field n = decimal n ++ codes ","

-- a signed field, and the comma after it
abbrev pub signed_field : ℤ → List ℕ
signed_field z = signed_decimal z ++ codes ","

-- a field that may be empty, and the comma after it
abbrev pub field_if : Option ℕ → List ℕ
field_if None = codes ","
field_if (Some n) = field n

-- the header line of packets
abbrev pub packet_header_text : List ℕ
packet_header_text = codes "run,packet,record,stamp,group,place,bucket,gapped,linear\n"

-- the fields that locate a packet, before its levels
abbrev pub packet_place : PacketRow → (finds : List ℕ) → List ℕ
packet_place r finds =
    field r.run ++ (field r.packet ++ (field r.rec ++ (field r.stamp ++ (field r.group ++ (field r.place ++ finds)))))

-- the levels of the bucket and the buffer just after a packet
abbrev pub packet_finds : PacketRow → List ℕ
packet_finds r = field r.bucket ++ (signed_field r.gapped ++ (signed_decimal r.linear ++ codes "\n"))

-- the row of a packet
abbrev pub packet_row_text : PacketRow → List ℕ
packet_row_text r = packet_place r (packet_finds r)

-- the header line of frames or fields
abbrev pub group_header_text : List ℕ
group_header_text =
    codes "run,group,record,stamp,first,last,timestamp,step,offset,latency,"
    ++ codes "bucket,gapped_least,gapped,linear_least,linear\n"

-- the fields that locate the first packet of a frame or field
abbrev pub group_place : GroupRow → (rest : List ℕ) → List ℕ
group_place r rest = field r.run ++ (field r.group ++ (field r.rec ++ (field r.stamp ++ rest)))

-- the times and the RTP timestamp of a frame or field, before its levels
abbrev pub group_clock : GroupRow → (finds : List ℕ) → List ℕ
group_clock r finds =
    signed_field r.first ++ (signed_field r.last ++ (field r.timestamp ++ (field_if r.step ++ (signed_field r.offset
    ++ (signed_field r.latency ++ finds)))))

-- the greatest count of the bucket at its packets, and the least and greatest occupancy of the buffer
abbrev pub group_finds : GroupRow → List ℕ
group_finds r =
    field r.bucket ++ (signed_field r.gapped_least ++ (signed_field r.gapped ++ (signed_field r.linear_least
    ++ (signed_decimal r.linear ++ codes "\n"))))

-- the row of a frame or field
abbrev pub group_row_text : GroupRow → List ℕ
group_row_text r = group_place r (group_clock r (group_finds r))
