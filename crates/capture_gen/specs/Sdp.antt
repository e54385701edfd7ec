-- The session description of the captures' flow (RFC 4566; SMPTE ST 2110-20, media type parameters).
use Rattle.std.specs.Prelude.{ℕ, List, ◌++◌, codes}

-- ten lines, each ended by LF
abbrev pub sdp_text : List ℕ
sdp_text =
    codes "v=0\n"
    ++ codes "o=- 1 1 IN IP4 192.0.2.1\n"
    ++ codes "s=test\n"
    ++ codes "t=0 0\n"
    ++ codes "m=video 50000 RTP/AVP 96\n"
    ++ codes "c=IN IP4 239.0.0.1/32\n"
    ++ codes "a=rtpmap:96 raw/90000\n"
    ++ codes "a=fmtp:96 sampling=YCbCr-4:2:2; width=1920; height=1080; exactframerate=50; depth=10; "
    ++ codes "TCS=SDR; colorimetry=BT709; PM=2110GPM; SSN=ST2110-20:2017; TP=2110TPN;\n"
    ++ codes "a=mediaclk:direct=0\n"
    ++ codes "a=ts-refclk:ptp=IEEE1588-2008:39-A7-94-FF-FE-07-CB-D0:37\n"
