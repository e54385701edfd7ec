use Rattle.std.proofs.Common.{take}
use Rattle.std.specs.Prelude.{string_bytes}
use Rattle.timing_words.proofs.Texts.{IsTexts}
use Rattle.timing_words.proofs.read.texts_of.Given as goal

abbrev pub invariant-loop-word : goal.invariant-loop-word
invariant-loop-word l = IsTexts string_bytes l.texts.items (take l.word-index l.words)
