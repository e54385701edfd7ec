use Rattle.std.proofs.Common.{subst, ◌≤◌, ◌∙◌, ◌+◌, ◌-◌, ◌*◌, ◌^◌, ℕ, ◌++◌, length, take, Some, ap, sym, lit≤}
use Rattle.std.proofs.lemmas.List.{take-append-le}
use Rattle.std.specs.Prelude.{◌==◌, ◌||◌, nat_lt, if◌then◌else◌}
use Rattle.pcap_reader.specs.WrittenHeads.{file_head}
use Rattle.pcapng_reader.specs.declared.block.Interface.{Interface}
use Rattle.pcapng_reader.specs.declared.block.Order.TheVariants.{Little}
use Rattle.pcapng_reader.specs.declared.packet.Fate.{Fate}
use Rattle.pcapng_reader.specs.declared.packet.Fate.TheVariants as fate
use Rattle.pcapng_reader.specs.Classic.{number, nanos, is_late, no_section, blocks, classic}
use Rattle.pcapng_reader.specs.Converting.{fate_given}
use Rattle.pcapng_reader.proofs.Numbers.{begins-front}
use Rattle.pcapng_reader.proofs.Packets.{packet-fate}
use Rattle.pcapng_reader.proofs.laws.limits.Goals as goal

pub returns-clause-most : goal.returns-clause-most
returns-clause-most c = λ s block long captured high low.
    let i : Interface = record { offset = 0; link = 1; resolution = 9 } in
    let next : ℕ → ℕ → ℕ → Fate = λ stamp n total.
    if nat_lt 262144 n || nat_lt (total - 4) (28 + n) then fate.Broken
    else if is_late i stamp then fate.Late
    else fate.Record (nanos i stamp) (if i.link == 1 then n else 0) in
    packet-fate (Some i) Little s block
    ∙ ap (λ f. fate_given f s block)
    (ap (λ x. next (x * 2 ^ 32 + number Little 4 16 block) (number Little 4 20 block) (length block)) high
    ∙ ap (λ x. next (0 * 2 ^ 32 + x) (number Little 4 20 block) (length block)) low
    ∙ ap (λ x. next 5 x (length block)) captured ∙ ap (next 5 262144) long)

pub returns-clause-text : goal.returns-clause-text
unfolding classic
returns-clause-text c = λ text more long begins.
    let least : 2 ^ 41 ≤ length text = subst (λ n. 2 ^ 41 ≤ n) (sym long) (lit≤ tt) in
    let some : 4 ≤ length text = subst (λ n. 4 ≤ n) (sym long) (lit≤ tt) in
    ap (λ b. if b then file_head ++ blocks no_section (take (2 ^ 41) (text ++ more)) else text ++ more) (begins-front text more some ∙ begins)
    ∙ ap (λ t. file_head ++ blocks no_section t) (take-append-le (2 ^ 41) text more least)
    ∙ sym (ap (λ b. if b then file_head ++ blocks no_section (take (2 ^ 41) text) else text) begins)
