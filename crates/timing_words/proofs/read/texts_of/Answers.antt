use Rattle.std.proofs.Common.{◌∙◌, ◌+◌, sym, ap, subst, take, arith}
use Rattle.std.specs.Prelude.{string_bytes}
use Rattle.timing_words.proofs.Texts.{IsTexts, texts_more}
use Rattle.timing_words.proofs.read.texts_of.Goals as goal

pub loop-word-preserved : goal.loop-word-preserved
loop-word-preserved c =
    subst (λ xs. IsTexts string_bytes xs (take (c.loop-word.word-index + 1) c.args.words.now)) (sym c.in_ok-push.ensures.items)
    (texts_more string_bytes c.args.words.now c.loop-word.word-index c.word-item.result c.loop-word.texts.items c.as_str.result
    (omega arith) (c.as_str.ensures.value ∙ ap string_bytes c.word-item.is) c.as_str.utf8 c.loop-word.invariant)
