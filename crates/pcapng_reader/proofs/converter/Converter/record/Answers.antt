use Rattle.std.proofs.Common.{refl, ◌≤◌, ◌∙◌, ◌+◌, ◌-◌, ◌++◌, length, take, drop, ap, arith, length-append, length-drop}
use Rattle.pcapng_reader.specs.Texts.{section_of}
use Rattle.pcapng_reader.specs.Windows.{kept_bytes, held_bytes}
use Rattle.pcapng_reader.specs.Stages.{rank}
use Rattle.pcapng_reader.specs.declared.stage.Content.TheVariants as content
use Rattle.pcapng_reader.specs.declared.block.Kind.TheVariants as kind
use Rattle.pcapng_reader.specs.Classic.{gives}
use Rattle.pcap_reader.specs.WrittenHeads.{record_head}
use Rattle.std.proofs.lemmas.List.{length-take}
use Rattle.pcapng_reader.specs.declared.stage.Body.{Body}
use Rattle.pcapng_reader.proofs.Steps.{block-waits, steps-entered, record-given, text-passed}
use Rattle.pcapng_reader.proofs.converter.Converter.record.Goals as goal

pub returns-then-len-captured : goal.returns-then-len-captured
returns-then-len-captured c =
    let w = c.args.self.now in
    block-waits w c.wait.new.self c.wait.result c.args.order kind.Packet c.args.total c.wait.ensures c.requires.block (omega (arith, c.requires.fits.1))
    (omega (arith, c.requires.fits.2))

pub returns : goal.returns
returns c =
    let w = c.args.self.now in
    let h = held_bytes w.window in
    let g = held_bytes c.keep_record.new.self in
    let k = kept_bytes c.keep_record.new.self in
    let o = c.args.order in
    let total = c.args.total in
    let len = c.args.len in
    let fits = c.requires.fits.2 in
    let held : 28 + len ≤ length h = omega arith in
    let kept = c.keep_record.ensures.kept ∙ ap (λ x. x ++ take len (drop 28 h)) c.record_head.ensures in
    let b : Body = record { order = o; total = total; left = (total - 32) - len } in
    steps-entered w _ o kind.Packet total (28 + len) ((total - 32) - len) (λ left. gives k (section_of w)) c.requires.block.head c.requires.block.total_is
    (omega (arith, fits)) held (omega arith)
    (λ left t. record-given o (section_of w) total c.args.at len h (take w.budget left) k held (omega (arith, fits)) c.requires.fate kept t)
    (λ left. text-passed _ (section_of w) k k h g (take w.budget left) (g ++ left) (28 + len) b content.Record refl refl c.keep_record.ensures.held held)
    (omega (
      arith,
      ap rank c.requires.block.stage_is,
      ap length kept,
      length-append (record_head c.args.at len) (take len (drop 28 h)),
      length-take len (drop 28 h),
      ap length c.keep_record.ensures.held,
      length-drop (28 + len) h,
    )) refl
