-- The video streams of a session description: their addresses, what their timing depends on, and the limits of these
-- quantities. Units and meanings are those of the fields of `Media`.
use Rattle.std.specs.Prelude.{◌≤◌, ◌*◌, ℕ, Bool, List, length, Option}
use Rattle.std.specs.Option.{ForSome}
use Rattle.timing_base.specs.declared.address.Address.{Address}
use Rattle.timing_base.specs.declared.media.Kind.{Kind}

-- one video stream
pub record Media : Type 0 where
  pub line : ℕ
  pub address : Address
  pub port : ℕ
  pub pt : ℕ
  pub width : ℕ
  pub height : ℕ
  pub interlaced : Bool
  pub p : ℕ
  pub q : ℕ
  pub declared : Option Kind
  pub troff : Option ℕ
  pub cmax : Option ℕ

-- the quantities of a video stream are within their limits
pub record IsMedia (m : Media) : Type 0 where
  pub port_some : 1 ≤ m.port
  pub pt_most : m.pt ≤ 127
  pub width_some : 1 ≤ m.width
  pub width_most : m.width ≤ 32767
  pub height_some : 1 ≤ m.height
  pub height_most : m.height ≤ 32767
  pub p_some : 1 ≤ m.p
  pub p_most : m.p ≤ 240 * m.q
  pub q_some : 1 ≤ m.q
  pub q_most : m.q ≤ 1001
  pub troff_most : ForSome m.troff (λ x. x ≤ 1000000)
  pub cmax_some : ForSome m.cmax (λ x. 1 ≤ x)
  pub cmax_most : ForSome m.cmax (λ x. x ≤ 65535)

-- a session has 1 to 64 video streams
pub record IsSession (media : List Media) : Type 0 where
  pub some : 1 ≤ length media
  pub few : length media ≤ 64
