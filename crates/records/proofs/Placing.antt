-- Bytes placed in a buffer.
use mathlib.Core.Path.{◌≡◌, sym, ap, ◌∙◌}
use mathlib.Core.List.{List, [], ◌++◌, append_assoc, append-nil}
use Prim.Native.Nat.{ℕ, ◌+◌, ◌≤◌}
use native.Mathlib.Nat.{add_assoc, add-zero, zero-add}
use native.Mathlib.Omega.{arith}
use lib.ListN.{length, take, drop, length-append, length-drop, take-append-drop}
use lib.Seq.{take_at, drop_at, drop-append-add, drop-drop, length-take-le}
use Rattle.records.specs.Format.{placed}

pub placed_none : (old : List ℕ) (at : ℕ) → old ≡ placed old at []
placed_none old at = sym (ap (λ (l : List ℕ). l ++ drop (at + 0) old) (append-nil (take at old)) ∙ rw add-zero (take-append-drop at old))

-- bytes, and more of them right after
pub placed_after : (old bs es : List ℕ) (at next : ℕ) → at ≤ length old → at + length bs ≡ next → placed (placed old at bs) next es ≡ placed old at (bs ++ es)
placed_after old bs es at next h e =
    let p : List ℕ = take at old ++ bs in
    let rest : List ℕ = drop (at + length bs) old in
    let hp : length p ≡ next = length-append (take at old) bs ∙ ap (λ (k : ℕ). k + length bs) (length-take-le at old h) ∙ e in
    let i : at + length bs + length es ≡ at + length (bs ++ es) = add_assoc at (length bs) (length es) ∙ ap (λ (k : ℕ). at + k) (sym (length-append bs es)) in
    let d : drop (next + length es) (p ++ rest) ≡ drop (at + length (bs ++ es)) old =
    ap (λ (k : ℕ). drop (k + length es) (p ++ rest)) (sym hp) ∙ drop-append-add p rest (length es) ∙ drop-drop (length es) (at + length bs) old ∙ ap (λ (k : ℕ). drop k old) i in
    rw (take_at p rest next hp, d, append_assoc (take at old) bs es)

-- bytes at the start of a buffer
module _ (old bs : List ℕ) (n : ℕ) (e : length bs ≡ n) where
  pub placed_front : take n (placed old 0 bs) ≡ bs
  placed_front = take_at bs _ n e

  pub placed_others : drop n (placed old 0 bs) ≡ drop n old
  placed_others = drop_at bs _ n e ∙ ap (λ (i : ℕ). drop i old) (zero-add (length bs) ∙ e)

  pub placed_length : n ≤ length old → length (placed old 0 bs) ≡ length old
  placed_length h = length-append bs (drop (0 + length bs) old) ∙ simp (length-drop) (omega arith)
