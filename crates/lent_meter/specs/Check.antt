-- What a test of words tells.
use Rattle.std.specs.Prelude.{◌≡◌, Bool, true, not, ◌&&◌, ◌||◌, List, ℕ, ◌%◌, ◌^◌, ◌<◌, eqb, leb, ltb, get_or}
use Rattle.properties.specs.Chain.{Six}
use Rattle.properties.specs.Bounds.{compression_low, calorific_low, density_low, relative_low, wobbe_low}
use Rattle.properties.specs.Quantities.{compression_bound, calorific_bound, density_bound, relative_bound, wobbe_bound}
use Rattle.meter.specs.declared.Register.{Register}

-- true exactly where something holds; a record beside std's `Decides`, so that a proof names each half
pub record Tells (answer : Bool) (Something : Type 0) : Type 0 where
  pub only : answer ≡ true → Something
  pub always : Something → answer ≡ true

-- a value lies between two others, both included
abbrev pub between : ℕ → ℕ → ℕ → Bool
between floor value ceiling = leb floor value && leb value ceiling

-- each property lies between its floor and its ceiling
abbrev pub within_ranges : Six → Bool
within_ranges p =
    between compression_low p.Z compression_bound
    && between calorific_low p.Hs calorific_bound
    && between calorific_low p.Hi calorific_bound
    && between density_low p.rho density_bound
    && between relative_low p.d relative_bound
    && between wobbe_low p.W wobbe_bound

-- a register holds no more than another
abbrev pub at_most : Register → Register → Bool
at_most e most = ltb e.whole most.whole || (eqb e.whole most.whole && leb e.rest most.rest)

-- how many of its rest make one whole of a register: a multiple of 10^6
pub record RegisterUnit (u : ℕ) : Type 0 where
  pub some : 0 < u
  pub small : u < 2 ^ 62
  pub parts : u % 1000000 ≡ 0

-- 14, from the words of a row
abbrev pub words_differ : List ℕ → ℕ → ℕ → Bool
words_differ row c m = not (eqb (get_or row 0 0) 0) && (not (eqb (get_or row 1 0) c) || not (eqb (get_or row 2 0) m))
