-- Each number is that of the line, and each sum has room for one more entry.
use mathlib.Core.Logic.{inl, inr}
use Rattle.std.proofs.Common.{◌≡◌, refl, ℕ, ◌+◌, ◌*◌, ◌^◌, ◌<◌, List, T, ℤ, pos, nat_abs, arith, w32, w64, to_z, of_z, slice_index_or}
use Rattle.std.specs.Int.Signed.{non_neg}
use Rattle.std.proofs.lemmas.Int.{fits_signed_from_abs, to_z-of_z}
use Rattle.components.specs.Table.{entry_of, row_of, Unsigned}
use Rattle.components.proofs.Entries.{entry_fits, not_negative}
use Rattle.components.proofs.Summing.{fits_more}
use Rattle.components.proofs.Places.{superior_is_heat, inferior_is_heat}
use Rattle.components.proofs.Sums.add.Goals as goal

-- the number in a column of the row of a line
module _ (line : ℕ) {column i : ℕ} {row : List ℤ} (is : row ≡ row_of line) (at : i ≡ column) where
  number_is : to_z w32 (of_z w32 (slice_index_or row i (pos 0))) ≡ entry_of line column
  number_is = rw (is, at) (to_z-of_z w32 _ (entry_fits line column))

  room : {x sum : ℕ} → x < 2 ^ 32 → sum < 2 ^ 62 → sum + x * nat_abs (to_z w32 (of_z w32 (slice_index_or row i (pos 0)))) < 2 ^ 63
  room fits h = rw number_is (fits_more _ _ line column h fits)

  unsigned : {x sum : ℕ} → Unsigned column → x < 2 ^ 32 → sum < 2 ^ 62
      → T (non_neg (to_z w32 (of_z w32 (slice_index_or row i (pos 0))))) × (sum + x * nat_abs (to_z w32 (of_z w32 (slice_index_or row i (pos 0)))) < 2 ^ 63)
  unsigned u fits h = (rw number_is (not_negative line column u), room fits h)

pub add_unsigned-self-requires : goal.add_unsigned-self-requires
add_unsigned-self-requires c =
    unsigned c.args.line c.row-row.ensures c.superior.ensures (inr (superior_is_heat c.args.combustion)) (omega arith) c.requires.room.0

pub add_unsigned-self-requires-2 : goal.add_unsigned-self-requires-2
add_unsigned-self-requires-2 c =
    unsigned c.args.line c.row-row.ensures c.inferior.ensures (inr (inferior_is_heat c.args.combustion)) (omega arith) c.requires.room.1

pub add_unsigned-self-requires-3 : goal.add_unsigned-self-requires-3
add_unsigned-self-requires-3 c = unsigned c.args.line c.row-row.ensures refl (inl refl) (omega arith) c.requires.room.2

pub add_product-self-requires : goal.add_product-self-requires
add_product-self-requires c =
    let e = to_z-of_z w64 _ (fits_signed_from_abs w64 c.args.self.now.summation (omega (arith, c.requires.room.3))) in
    rw e (room c.args.line c.row-row.ensures c.summation.ensures (omega arith) c.requires.room.3)
