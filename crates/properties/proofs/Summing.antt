-- The sums that the code has made of an accepted record, as the sums of its contents.
use mathlib.Core.Path.{◌≡◌}
use mathlib.Core.List.{List}
use Prim.Native.Nat.{ℕ}
use lib.IntN.{ℤ}
use Rattle.records.specs.Order.{first_of}
use Rattle.records.specs.Format.{metering_in, contents_in}
use Rattle.records.specs.Conditions.{record_order}
use Rattle.records.proofs.Accepted.{acceptable}
use Rattle.properties.specs.Chain.{HmSuperior, HmInferior, M, S}
use Rattle.properties.specs.Accepted.{Summed}

pub summed : (bs : List ℕ) → first_of (record_order bs) ≡ 0 → {superior inferior mass metering : ℕ} {summation : ℤ} → superior ≡ HmSuperior (contents_in bs)
    → inferior ≡ HmInferior (contents_in bs) → mass ≡ M (contents_in bs) → summation ≡ S (contents_in bs) → metering ≡ metering_in bs
    → Summed superior inferior mass summation metering
summed bs clear hs hi m s is =
    record {
      gas = contents_in bs;
      acceptable = acceptable bs clear;
      sums = record { superior_is = hs; inferior_is = hi; mass_is = m; summation_is = s; metering_is = is };
    }
