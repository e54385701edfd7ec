-- The flows and the rows of the captures that are worked by hand. The rows follow from the flows alone.
use Rattle.std.proofs.Common.{◌≡◌, ℕ, List, [], ◌∷◌, ◌++◌, ap, ◌∙◌, rules}
use Rattle.timing_base.specs.Shifts.{FlowOptions}
use Rattle.timing_base.specs.Captures.{Record}
use Rattle.timing_base.specs.Media.{Media}
use Rattle.timing_base.specs.Targets.{target_of}
use Rattle.timing_base.specs.declared.packet.FlowPacket.{FlowPacket}
use Rattle.timing_base.specs.declared.row.Row.{Row}
use Rattle.udp_rtp.specs.Examples.{group}
use Rattle.udp_rtp.specs.Flow.{flow}
use Rattle.fail_interval.specs.Row.{row}
use Rattle.udp_rtp.specs.TwoFlows.{first_capture, joined_captures, next_port, packet_at, second_capture}
use Rattle.fail_interval.specs.Rows.{rows_of, rows_of_files}
use Rattle.timing_base.specs.Keys.{key_of}

-- the rows of two media by their flows
rows-by : (options : FlowOptions) (file : ℕ) (a b : Media) (items : List Record) (p q : List FlowPacket) → flow items a ≡ p → flow items b ≡ q
    → rows_of options file (a ∷ b ∷ []) items ≡ row p (key_of file 0) a options ∷ row q (key_of file 1) b options ∷ []
rows-by options file a b items p q e f =
    ap (λ (x : List FlowPacket). row x (key_of file 0) a options ∷ row (flow items b) (key_of file 1) b options ∷ []) e
    ∙ ap (λ (x : List FlowPacket). row p (key_of file 0) a options ∷ row x (key_of file 1) b options ∷ []) f

first-flow : (m : Media) → target_of m ≡ group → flow first_capture m ≡ packet_at 4 130 ∷ packet_at 5 140 ∷ []
first-flow m e = search rules

first-next : (m : Media) → target_of m ≡ next_port → flow first_capture m ≡ packet_at 1 100 ∷ []
first-next m e = search rules

second-flow : (m : Media) → target_of m ≡ group → flow second_capture m ≡ []
second-flow m e = search rules

second-next : (m : Media) → target_of m ≡ next_port → flow second_capture m ≡ packet_at 1 200 ∷ []
second-next m e = search rules

joined-flow : (m : Media) → target_of m ≡ group → flow joined_captures m ≡ packet_at 4 130 ∷ packet_at 5 140 ∷ []
joined-flow m e = search rules

joined-next : (m : Media) → target_of m ≡ next_port → flow joined_captures m ≡ packet_at 1 100 ∷ packet_at 6 200 ∷ []
joined-next m e = search rules

pub joined-rows : (options : FlowOptions) (a b : Media) → target_of a ≡ group → target_of b ≡ next_port
    → rows_of options 0 (a ∷ b ∷ []) joined_captures
    ≡ row (packet_at 4 130 ∷ packet_at 5 140 ∷ []) (key_of 0 0) a options ∷ row (packet_at 1 100 ∷ packet_at 6 200 ∷ []) (key_of 0 1) b options ∷ []
joined-rows options a b e f =
    rows-by options 0 a b joined_captures (packet_at 4 130 ∷ packet_at 5 140 ∷ []) (packet_at 1 100 ∷ packet_at 6 200 ∷ []) (joined-flow a e) (joined-next b f)

pub file-rows : (options : FlowOptions) (a b : Media) → target_of a ≡ group → target_of b ≡ next_port
    → rows_of_files options 0 (a ∷ b ∷ []) (first_capture ∷ second_capture ∷ [])
    ≡ row (packet_at 4 130 ∷ packet_at 5 140 ∷ []) (key_of 0 0) a options ∷ row (packet_at 1 100 ∷ []) (key_of 0 1) b options
    ∷ row [] (key_of 1 0) a options ∷ row (packet_at 1 200 ∷ []) (key_of 1 1) b options ∷ []
file-rows options a b e f =
    let first = rows-by options 0 a b first_capture (packet_at 4 130 ∷ packet_at 5 140 ∷ []) (packet_at 1 100 ∷ []) (first-flow a e) (first-next b f) in
    let second = rows-by options 1 a b second_capture [] (packet_at 1 200 ∷ []) (second-flow a e) (second-next b f) in
    ap (λ (l : List Row). l ++ (rows_of options 1 (a ∷ b ∷ []) second_capture ++ [])) first
    ∙ ap (λ (l : List Row). row (packet_at 4 130 ∷ packet_at 5 140 ∷ []) (key_of 0 0) a options ∷ row (packet_at 1 100 ∷ []) (key_of 0 1) b options ∷ (l ++ []))
    second
