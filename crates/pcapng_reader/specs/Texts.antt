-- The output that a converter still has to give, by the bytes that its source has left, and the effect of its steps
-- on that output.
use Rattle.std.specs.Prelude.{◌≡◌, ◌≤◌, ◌<◌, ℕ, ◌+◌, ◌*◌, true, if◌then◌else◌, List, [], ◌∷◌, ◌++◌, length, take}
use Rattle.pcap_reader.specs.WrittenHeads.{file_head}
use Rattle.pcapng_reader.specs.declared.block.Order.{Order}
use Rattle.pcapng_reader.specs.declared.block.Kind.{Kind}
use Rattle.pcapng_reader.specs.declared.stage.Body.{Body}
use Rattle.pcapng_reader.specs.declared.stage.Found.{Found}
use Rattle.pcapng_reader.specs.declared.stage.Stage.{Stage}
use Rattle.pcapng_reader.specs.declared.stage.Stage.TheVariants as stage
use Rattle.pcapng_reader.specs.declared.converter.Converter.{Converter}
use Rattle.pcapng_reader.specs.declared.step.Step.{Step}
use Rattle.pcapng_reader.specs.declared.step.Step.TheVariants as step
use Rattle.pcapng_reader.specs.declared.step.Gift.{Gift}
use Rattle.pcapng_reader.specs.declared.step.Gift.TheVariants as gift
use Rattle.pcapng_reader.specs.Classic.{Section, begins_section, no_section, blocks, is_length, number}
use Rattle.pcapng_reader.specs.Converting.{content_given, options_text, after, head_text}
use Rattle.pcapng_reader.specs.Described.{list_of}
use Rattle.pcapng_reader.specs.Stages.{is_due, rank}
use Rattle.pcapng_reader.specs.Windows.{kept_bytes, held_bytes}

-- the state of the section that a converter is in
abbrev pub section_of : Converter → Section
section_of c = record { order = c.order; interfaces = list_of c.interfaces }

-- the bytes that follow, up to the limit of a pcapng file
abbrev pub ahead : Converter → (left : List ℕ) → List ℕ
ahead c left = held_bytes c.window ++ take c.budget left

-- all bytes that follow
abbrev pub whole : Converter → (left : List ℕ) → List ℕ
whole c left = held_bytes c.window ++ left

-- the output at a stage; `near` is the bytes that follow within the limit of a pcapng file, `far` all bytes that
-- follow
unfoldable pub text_by : Stage → Section → (kept near far : List ℕ) → List ℕ
text_by stage.Start section kept near far =
    if begins_section near then file_head ++ blocks no_section near else far
text_by stage.Through section kept near far = kept ++ far
text_by stage.Block section kept near far = kept ++ blocks section near
text_by (stage.Options body found) section kept near far =
    options_text body found section near
text_by (stage.Passing body content) section kept near far =
    after body near (content_given content body.order kept section)
text_by stage.Over section kept near far = kept

-- the output that a converter still has to give
abbrev pub text_of : Converter → (left : List ℕ) → List ℕ
text_of c left = text_by c.stage (section_of c) (kept_bytes c.window) (ahead c left) (whole c left)

-- a bound on the number of steps without a read
abbrev pub work : Converter → ℕ
work c = 100 * length (held_bytes c.window) + rank c.stage + length (kept_bytes c.window)

-- there is room for a read
abbrev pub HasRoom : Converter → Type 0
HasRoom c = length (kept_bytes c.window) + length (held_bytes c.window) + 65536 ≤ 327708

-- the result of a step: it went on; or a read is needed; or only the rest of the source is left to give; or nothing
abbrev pub Tells : (old new : Converter) → Step → Type 0
Tells old new step.Moved = work new < work old
Tells old new step.Hungry = (0 < new.budget) × HasRoom new
Tells old new step.Through = (left : List ℕ) → text_of new left ≡ left
Tells old new step.Over = (left : List ℕ) → text_of new left ≡ []

-- a step doesn't change the output
pub record Steps (old new : Converter) (answer : Step) : Type 0 where
  pub text : (left : List ℕ) → text_of new left ≡ text_of old left
  pub tells : Tells old new answer
  pub budget : new.budget ≡ old.budget

-- if too few bytes are buffered, more are read, or the file ends within a block
abbrev pub Waits : (old new : Converter) → Step → Type 0
Waits old new step.Moved =
    (old.budget ≡ 0) × ((left : List ℕ) → text_of new left ≡ 0 ∷ []) × (work new ≤ 1)
    × (new.budget ≡ old.budget)
Waits old new step.Hungry = (new ≡ old) × (0 < new.budget)
Waits old new step.Through = ⊥
Waits old new step.Over = ⊥

-- the output is that of a block of this order, kind and total length
abbrev pub IsHead : Order → Kind → (total : ℕ) → Converter → Type 0
IsHead order kind total c =
    (left : List ℕ) → text_of c left ≡ head_text order kind total (section_of c) (ahead c left)

-- at the start of a block of this order, kind and total length, without output bytes
pub record AtBlock (order : Order) (kind : Kind) (total : ℕ) (c : Converter) : Type 0 where
  pub head : IsHead order kind total c
  pub total_is : is_length kind total ≡ true
  pub stage_is : c.stage ≡ stage.Block
  pub given : kept_bytes c.window ≡ []

-- at the start of an option of an interface description, with this code and a value of `size` bytes, without output
-- bytes
pub record AtOption (body : Body) (found : Found) (code size : ℕ) (c : Converter) : Type 0 where
  pub stage_is : c.stage ≡ stage.Options body found
  pub given : kept_bytes c.window ≡ []
  pub held : 4 ≤ length (held_bytes c.window)
  pub left : 4 ≤ body.left
  pub code_is : code ≡ number body.order 2 0 (held_bytes c.window)
  pub size_is : size ≡ number body.order 2 2 (held_bytes c.window)
  pub some : 0 < code

-- bytes of the output are put behind those before `at`, within the same stage
pub record Fills (at : ℕ) (before now : List ℕ) (old new : Converter) (count : ℕ) : Type 0 where
  pub same_length : length now ≡ length before
  pub least : at ≤ count
  pub most : count ≤ length now
  pub text : (left : List ℕ)
      → take count now ++ text_of new left ≡ take at before ++ text_of old left
  pub stage : new.stage ≡ old.stage
  pub budget : new.budget ≡ old.budget
  pub work : work new ≤ work old

-- as many output bytes are put as there are and fit
pub record Pours (at : ℕ) (before now : List ℕ) (old new : Converter) (count : ℕ) : Type 0 where
  pub fills : Fills at before now old new count
  pub given : count < length now → is_due new.stage ≡ true → kept_bytes new.window ≡ []

-- the bytes put are packet records of complete packet blocks, which are consumed
pub record Puts (at : ℕ) (before now : List ℕ) (old new : Converter) (count : ℕ) : Type 0 where
  pub fills : Fills at before now old new count
  pub order : new.order ≡ old.order
  pub kept : kept_bytes new.window ≡ kept_bytes old.window

-- the result of a call takes its bytes off the output; there are none only if `out` is empty or for the returned
-- reason
abbrev pub GiftTells : (out : List ℕ) → (old new : Converter) → Gift → Type 0
GiftTells out old new (gift.Bytes count) =
    (count ≤ length out) × (0 < length out → 0 < count)
    × ((left : List ℕ) → text_of old left ≡ take count out ++ text_of new left)
GiftTells out old new gift.Hungry =
    ((left : List ℕ) → text_of old left ≡ text_of new left) × (0 < new.budget) × HasRoom new
GiftTells out old new gift.Through =
    ((left : List ℕ) → text_of old left ≡ left) × ((left : List ℕ) → text_of new left ≡ left)
GiftTells out old new gift.Over =
    ((left : List ℕ) → text_of old left ≡ []) × ((left : List ℕ) → text_of new left ≡ [])

-- a call takes its result off the output, and reads nothing
pub record Gives (out : List ℕ) (old new : Converter) (answer : Gift) : Type 0 where
  pub tells : GiftTells out old new answer
  pub budget : new.budget ≡ old.budget
