-- What a call on a record gives, properties or values per kilogram, from the number of the first condition that holds.
use mathlib.Core.Path.{◌≡◌, sym, ap, ◌∙◌}
use mathlib.Core.List.{List}
use Prim.Native.Nat.{ℕ}
use Rattle.records.specs.Order.{first_of, refused, accepted, decided, mapped}
use Rattle.records.specs.Format.{Contents, contents_in}
use Rattle.records.specs.Conditions.{record_order}
use Rattle.records.specs.Calls.{reading_of}
use Rattle.records.proofs.OrderLaws.{mapped_decided, decided_accepted, decided_refused}
use Rattle.records.proofs.FirstBytes as records
use Rattle.properties.specs.Chain.{six_of, FirstBytesDecideProperties}
use Rattle.properties.specs.PerKilogram.{mass_basis_of, FirstBytesDecidePerKilogram}

-- f is what the call makes of the contents
module _ {A : Type 0} (f : Contents → A) (bs : List ℕ) where
  pub accepted_reading : first_of (record_order bs) ≡ 0 → accepted (f (contents_in bs)) ≡ mapped f (reading_of bs)
  accepted_reading e = sym (ap (λ (n : ℕ). mapped f (decided n (contents_in bs))) e)

  -- what the answer says of the order
  pub number_of_refused : (n : ℕ) → refused n ≡ mapped f (reading_of bs) → (n ≡ first_of (record_order bs)) × (n ≡ 0 → ⊥)
  number_of_refused n e = decided_refused _ (f (contents_in bs)) n (sym (e ∙ mapped_decided f (first_of (record_order bs)) (contents_in bs)))

  pub clear_of_accepted : (x : A) → accepted x ≡ mapped f (reading_of bs) → (first_of (record_order bs) ≡ 0) × (f (contents_in bs) ≡ x)
  clear_of_accepted x e = decided_accepted _ (f (contents_in bs)) x (sym (e ∙ mapped_decided f (first_of (record_order bs)) (contents_in bs)))

pub first_bytes_decide : FirstBytesDecideProperties
first_bytes_decide bs = ap (mapped six_of) (records.first_bytes_decide bs)

pub first_bytes_decide_per_kilogram : FirstBytesDecidePerKilogram
first_bytes_decide_per_kilogram bs = ap (mapped mass_basis_of) (records.first_bytes_decide bs)
