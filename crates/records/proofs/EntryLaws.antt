-- The entries of a record: what stands at an index, an array that is filled from the front, and a buffer that gets entry after entry.
use mathlib.Core.Path.{◌≡◌, refl, sym, ap, ◌∙◌}
use mathlib.Core.List.{List, [], ◌∷◌, ◌++◌}
use Prim.Native.Nat.{ℕ, zero, suc, ◌+◌, ◌*◌, ◌≤◌, ◌<◌}
use native.Mathlib.Nat.{add_assoc}
use native.Mathlib.Numerals.{add-one}
use native.Mathlib.Omega.{arith}
use lib.ListN.{length, get_or, take, drop, replicate}
use lib.Seq.{get_or-drop, length-take-le}
use Rattle.records.specs.Format.{entries_at, record_length, number4, count_in, entries_in, lines_of, fractions_of, lines_in, fractions_in, entry_bytes, entries_bytes, placed}
use Rattle.records.specs.Counted.{count_lines}
use Rattle.records.proofs.Placing.{placed_none, placed_after}

number_drop : (m : ℕ) (bs : List ℕ) (at : ℕ) → number4 (drop m bs) at ≡ number4 bs (m + at)
number_drop m bs at = simp (get_or-drop, add_assoc)

-- the entry k of n
line_at : (n : ℕ) (es : List ℕ) (k : ℕ) → k < n → get_or (lines_of n es) k 0 ≡ get_or es (5 * k) 0
unfolding lines_of
line_at zero es k h = absurd (omega arith)
line_at (suc n) es zero h = refl
line_at (suc n) es (suc k) h = line_at n (drop 5 es) k (omega arith) ∙ get_or-drop 5 es (5 * k) 0 ∙ ap (λ (i : ℕ). get_or es i 0) (omega arith)

fraction_at_lem : (n : ℕ) (es : List ℕ) (k : ℕ) → k < n → get_or (fractions_of n es) k 0 ≡ number4 es (5 * k + 1)
unfolding fractions_of
fraction_at_lem zero es k h = absurd (omega arith)
fraction_at_lem (suc n) es zero h = refl
fraction_at_lem (suc n) es (suc k) h = fraction_at_lem n (drop 5 es) k (omega arith) ∙ number_drop 5 es (5 * k + 1) ∙ ap (λ (i : ℕ). number4 es i) (omega arith)

-- where the entry k of a record stands
module _ (bs : List ℕ) (k : ℕ) (h : k < count_in bs) where
  pub line_here : get_or bs (record_length k) 0 ≡ get_or (lines_in bs) k 0
  line_here = sym (line_at (count_in bs) (entries_in bs) k h ∙ get_or-drop entries_at bs (5 * k) 0)

  pub fraction_here : number4 bs (record_length k + 1) ≡ get_or (fractions_in bs) k 0
  fraction_here =
      sym (fraction_at_lem (count_in bs) (entries_in bs) k h ∙ number_drop entries_at bs (5 * k + 1) ∙ ap (λ (i : ℕ). number4 bs i) (sym (add_assoc entries_at (5 * k) 1)))

-- an index of an entry, in bytes that hold the entries they count
pub record Index (bs : List ℕ) (k : ℕ) : Type 0 where
  pub counted : k < count_in bs
  pub few : k ≤ 255
  pub held : record_length k + 5 ≤ length bs

pub within : (bs : List ℕ) (k : ℕ) → count_in bs ≤ 255 → record_length (count_in bs) ≤ length bs → k < length (lines_in bs) → Index bs k
within bs k f h l = let e = count_lines bs in record { counted = omega (arith, e); few = omega (arith, e); held = omega (arith, e) }

-- an array of 55 whose first k numbers are those of s, and the others 0
abbrev pub filled : List ℕ → ℕ → List ℕ
filled s k = take k s ++ drop k (replicate 55 0)

pub length_entries : (ls xs : List ℕ) → length ls ≡ length xs → length (entries_bytes ls xs) ≡ 5 * length ls
unfolding entries_bytes
length_entries [] xs e = refl
length_entries (l ∷ ls) [] e = absurd (omega arith)
length_entries (l ∷ ls) (x ∷ xs) e = let h = length_entries ls xs (omega arith) in omega arith

entries_more : (ls xs : List ℕ) (k : ℕ) → k < length ls → k < length xs
    → entries_bytes (take (k + 1) ls) (take (k + 1) xs) ≡ entries_bytes (take k ls) (take k xs) ++ entry_bytes (get_or ls k 0) (get_or xs k 0)
unfolding entries_bytes
entries_more ls xs k hl hx = rw add-one (go ls xs k hl hx) where
  go : (ls xs : List ℕ) (k : ℕ) → k < length ls → k < length xs
      → entries_bytes (take (suc k) ls) (take (suc k) xs) ≡ entries_bytes (take k ls) (take k xs) ++ entry_bytes (get_or ls k 0) (get_or xs k 0)
  go [] xs k hl hx = absurd (omega arith)
  go (l ∷ ls) [] k hl hx = absurd (omega arith)
  go (l ∷ ls) (x ∷ xs) zero hl hx = refl
  go (l ∷ ls) (x ∷ xs) (suc k) hl hx = ap (λ (t : List ℕ). entry_bytes l x ++ t) (go ls xs k (omega arith) (omega arith))

-- a buffer with the first k entries at an offset
abbrev pub written : List ℕ → ℕ → List ℕ → List ℕ → ℕ → List ℕ
written old at ls xs k = placed old at (entries_bytes (take k ls) (take k xs))

pub none_written : (old : List ℕ) (at : ℕ) (ls xs : List ℕ) → old ≡ written old at ls xs 0
unfolding entries_bytes
none_written old at ls xs = placed_none old at

-- the next entry is written
pub next_written : (old now : List ℕ) (at : ℕ) (ls xs : List ℕ) (k : ℕ) → k < length ls → length ls ≡ length xs → at ≤ length old
    → now ≡ written old at ls xs k → placed now (at + 5 * k) (entry_bytes (get_or ls k 0) (get_or xs k 0)) ≡ written old at ls xs (k + 1)
next_written old now at ls xs k h e r inv =
    let tl = length-take-le k ls (omega arith) in
    let tx = length-take-le k xs (omega arith) in
    let n = length_entries (take k ls) (take k xs) (tl ∙ sym tx) in
    rw (inv, entries_more ls xs k h (omega arith))
    (placed_after old (entries_bytes (take k ls) (take k xs)) (entry_bytes (get_or ls k 0) (get_or xs k 0)) at (at + 5 * k) r (omega arith))
