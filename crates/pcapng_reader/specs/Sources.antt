-- A source that gives another one's bytes in classic form.
use Rattle.std.specs.Prelude.{ℕ, List, Option}
use Rattle.std.specs.Option.{option_map}
use Rattle.pcapng_reader.specs.declared.source.Classic.{Classic}
use Rattle.pcapng_reader.specs.Texts.{text_of}

-- the wrapped source
abbrev pub under : {S : Type 0} → Classic S → S
under c = c.source

-- the classic form that is left, if the contents of the wrapped source are known
abbrev pub left_of : {S : Type 0} → (S → Option (List ℕ)) → Classic S → Option (List ℕ)
left_of left c = option_map (text_of c.converter) (left (under c))

-- its name, which is that of the wrapped source
abbrev pub name_of : {S : Type 0} → (S → List ℕ) → Classic S → List ℕ
name_of name c = name (under c)

-- its count of faults, which is that of the wrapped source
abbrev pub faults_of : {S : Type 0} → (S → ℕ) → Classic S → ℕ
faults_of faults c = faults (under c)
