-- The state kept of two flows: the pages of their packet numbers, and the counts of each flow.
use Rattle.std.specs.Prelude.{◌≡◌, ℕ, ◌+◌, ◌/◌, ◌%◌, false, nat_eq, slice_get, Option, Some, None}
use Rattle.std.specs.List.{position_or_len}
use Rattle.path_skew.specs.Listed.{pages_of}
use Rattle.path_skew.specs.View.{View, of_parts}
use Rattle.path_skew.specs.declared.pages.Page.{Page}
use Rattle.path_skew.specs.declared.pages.Pages.{Pages}
use Rattle.path_skew.specs.declared.pages.Side.{Side}
use Rattle.path_skew.specs.declared.pages.Side.TheVariants.{First, Second}
use Rattle.path_skew.specs.declared.flow.Flow.{Flow}

-- the bits of the packet numbers that one flow had on a page
abbrev pub bits_of : Side → Page → ℕ
bits_of First page = page.first
bits_of Second page = page.second

-- the other flow
abbrev pub opposite : Side → Side
opposite First = Second
opposite Second = First

-- a page as seen from one flow; an absent page has nothing
abbrev pub page_view : Side → Option Page → View
page_view side None = record { own = λ _. false; other = λ _. false; kept = λ _. None }
page_view side (Some page) = of_parts (bits_of side page) (bits_of (opposite side) page) page.arrivals

-- the page with this page number
abbrev pub page_at : Pages → (page : ℕ) → Option Page
page_at pages page = slice_get pages.pages.items (position_or_len (nat_eq page) (pages_of pages.directory))

-- the page of a packet number
abbrev pub page_of : Pages → ℕ → Option Page
page_of pages number = page_at pages (number / 32)

-- the pages as seen from one flow
abbrev pub view : Side → Pages → View
view side pages = record {
  own = λ n. (page_view side (page_of pages n)).own (n % 32);
  other = λ n. (page_view side (page_of pages n)).other (n % 32);
  kept = λ n. (page_view side (page_of pages n)).kept (n % 32);
}

-- this page number is at this position
abbrev pub HasPage : Pages → (page place : ℕ) → Type 0
HasPage pages page place = slice_get (pages_of pages.directory) place ≡ Some page

-- number of packets given of a flow
abbrev pub count_given : Flow → ℕ
count_given flow = flow.numbers + flow.repeated + flow.unread

-- `opened` more packets with a new number, `again` with a repeated one and `faulty` that couldn't be parsed are counted
pub record IsCounted (old new : Flow) (opened again faulty : ℕ) : Type 0 where
  pub numbers : new.numbers ≡ old.numbers + opened
  pub repeated : new.repeated ≡ old.repeated + again
  pub unread : new.unread ≡ old.unread + faulty
