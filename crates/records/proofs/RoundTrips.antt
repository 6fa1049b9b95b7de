-- The writer fills its bytes, and the round trips hold.
use mathlib.Core.Path.{◌≡◌, refl, sym, ap, ◌∙◌}
use mathlib.Core.Bool.{◌&&◌}
use mathlib.Core.List.{List, [], ◌∷◌, ◌++◌}
use Prim.Native.Nat.{ℕ, zero, suc, ◌+◌, ◌*◌, ◌^◌, ◌≤◌, ◌<◌}
use native.Mathlib.Omega.{arith}
use borrow.Author.Tests.{le-ltb, eq-eqb, ne_eqb, ltb-false, not-false, eqb-true}
use lib.Dec.{eqb, ltb}
use lib.ListN.{length, get_or, take, drop, take-append-drop, length-drop}
use lib.Seq.{take_at, take-suc, get_or-drop}
use Rattle.std.proofs.lemmas.Nat.{from_le_bytes-to_le_bytes_4, le_bytes_4}
use Rattle.std.proofs.lemmas.Bool.{and_parts, or_parts}
use Rattle.components.specs.Composition.{most_sum, total}
use Rattle.records.specs.Order.{Order, first_of, accepted, decided}
use Rattle.records.specs.Format.{Contents, Bytes, entries_at, record_length, number4, combustion_in, metering_in, count_in, entries_in, lines_of, fractions_of, lines_in, fractions_in, contents_in, head_bytes, entry_bytes, entries_bytes, bytes_of, placed}
use Rattle.records.specs.Conditions.{least_sum, head_order, content_order, record_order, start_order, room_order, writer_order}
use Rattle.records.specs.Calls.{reading_of}
use Rattle.records.specs.Answers.{padded}
use Rattle.records.specs.RoundTrips.{AnswerHoldsContents, FillsItsBytes, ReadThenWritten, WrittenThenRead}
use Rattle.records.proofs.OrderLaws.{passes, clear_first, clear_second, unmet, decided_accepted}
use Rattle.records.proofs.Heads.{Head, head, Start, start, room_of}
use Rattle.records.proofs.Placing.{placed_front, placed_others, placed_length}
use Rattle.records.proofs.EntryLaws.{length_entries}
use Rattle.records.specs.Counted.{count_lines, count_fractions}

-- the first n numbers of a list
unfoldable firsts : ℕ → List ℕ → List ℕ
firsts zero l = []
firsts (suc n) l = firsts n l ++ (get_or l n 0 ∷ [])

take_firsts : (n : ℕ) (l : List ℕ) → n ≤ length l → take n l ≡ firsts n l
unfolding firsts
take_firsts zero l h = refl
take_firsts (suc n) l h = take-suc l n 0 h ∙ ap (λ (t : List ℕ). t ++ (get_or l n 0 ∷ [])) (take_firsts n l (omega arith))

-- the entries, read and written again
entry_again : (es : List ℕ) → Bytes es → 5 ≤ length es → entry_bytes (get_or es 0 0) (number4 es 1) ≡ take 5 es
unfolding firsts
entry_again es b h =
    rw (take_firsts 5 es h)
    (ap (λ (t : List ℕ). get_or es 0 0 ∷ t) (le_bytes_4 (get_or es 1 0 ∷ get_or es 2 0 ∷ get_or es 3 0 ∷ get_or es 4 0 ∷ []) (number4 es 1) refl is_byte (omega arith)))
  where
    is_byte : (i : ℕ) → get_or (get_or es 1 0 ∷ get_or es 2 0 ∷ get_or es 3 0 ∷ get_or es 4 0 ∷ []) i 0 < 256
    is_byte zero = b 1
    is_byte (suc zero) = b 2
    is_byte (suc (suc zero)) = b 3
    is_byte (suc (suc (suc zero))) = b 4
    is_byte (suc (suc (suc (suc i)))) = omega arith

entries_again : (n : ℕ) (es : List ℕ) → Bytes es → length es ≡ 5 * n → entries_bytes (lines_of n es) (fractions_of n es) ≡ es
unfolding lines_of fractions_of entries_bytes
entries_again zero [] b e = refl
entries_again zero (x ∷ es) b e = absurd (omega arith)
entries_again (suc n) es b e =
    ap (λ (t : List ℕ). t ++ entries_bytes (lines_of n (drop 5 es)) (fractions_of n (drop 5 es))) (entry_again es b (omega arith))
    ∙ ap (λ (t : List ℕ). take 5 es ++ t) (entries_again n (drop 5 es) (λ i. rw get_or-drop (b (5 + i))) (simp length-drop (omega arith)))
    ∙ take-append-drop 5 es

-- the bytes before the entries
head_again : (bs : List ℕ) → Head bs → take entries_at bs ≡ head_bytes (combustion_in bs) (metering_in bs) (count_in bs)
unfolding firsts
head_again bs h =
    let m = and_parts (eqb (get_or bs 0 0) 71 && eqb (get_or bs 1 0) 67) (eqb (get_or bs 2 0) 82) (not-false _ h.mark) in
    let m' = and_parts (eqb (get_or bs 0 0) 71) (eqb (get_or bs 1 0) 67) m.0 in
    let e₀ : get_or bs 0 0 ≡ 71 = eqb-true _ _ m'.0 in
    let e₁ : get_or bs 1 0 ≡ 67 = eqb-true _ _ m'.1 in
    let e₂ : get_or bs 2 0 ≡ 82 = eqb-true _ _ m.1 in
    let v : get_or bs 3 0 + 256 * get_or bs 4 0 ≡ 1 = eqb-true _ _ (not-false _ h.version) in
    let e₃ : get_or bs 3 0 ≡ 1 = omega arith in
    let e₄ : get_or bs 4 0 ≡ 0 = omega arith in
    rw (take_firsts 8 bs h.long, e₀, e₁, e₂, e₃, e₄)

-- the bytes of an accepted record are those of its contents
bytes_again : (bs : List ℕ) → Bytes bs → Head bs → bytes_of (contents_in bs) ≡ bs
bytes_again bs b h =
    let es : List ℕ = entries_in bs in
    ap (λ (n : ℕ). head_bytes (combustion_in bs) (metering_in bs) n ++ entries_bytes (lines_in bs) (fractions_in bs)) (count_lines bs)
    ∙ ap (λ (t : List ℕ). t ++ entries_bytes (lines_in bs) (fractions_in bs)) (sym (head_again bs h))
    ∙ ap (λ (t : List ℕ). take entries_at bs ++ t) (entries_again (count_in bs) es (λ i. rw get_or-drop (b (entries_at + i))) (simp length-drop (omega (arith, h.exact))))
    ∙ take-append-drop entries_at bs

-- an accepted record's head and content
module _ (bs : List ℕ) (h : first_of (record_order bs) ≡ 0) where
  accepted_clear : first_of (head_order bs) ≡ 0
  accepted_clear = clear_first (head_order bs) (content_order (lines_in bs) (fractions_in bs)) tt h

  pub accepted_head : Head bs
  accepted_head = head bs accepted_clear

  pub accepted_content : first_of (content_order (lines_in bs) (fractions_in bs)) ≡ 0
  accepted_content = clear_second (head_order bs) (content_order (lines_in bs) (fractions_in bs)) tt h

-- such a record is refused by the writer for nothing but its room
writer_room : (bs : List ℕ) (room : ℕ) → first_of (record_order bs) ≡ 0 → first_of (writer_order (contents_in bs) room) ≡ first_of (room_order room (count_in bs))
writer_room bs room h =
    let nl = count_lines bs in
    let nx = count_fractions bs in
    let a = accepted_head bs h in
    let content = content_order (lines_in bs) (fractions_in bs) in
    let last = room_order room (length (lines_in bs)) in
    let c : first_of (start_order (contents_in bs)) ≡ 0 =
    rw (nl, nx, eq-eqb (count_in bs) (count_in bs) refl, a.pair, ne_eqb _ _ a.entries.some, le-ltb _ _ a.entries.few) in
    sym (passes (start_order (contents_in bs)) (content ++ last) tt refl c (passes content last tt refl (accepted_content bs h) refl))
    ∙ ap (λ (n : ℕ). first_of (room_order room n)) nl

-- with room, nothing refuses it
pub read_then_written : ReadThenWritten
read_then_written bs old k b e r =
    let d = decided_accepted (first_of (record_order bs)) (contents_in bs) k e in
    let a = accepted_head bs d.0 in
    let w : first_of (writer_order (contents_in bs) (length old)) ≡ 0 =
    writer_room bs (length old) d.0 ∙ rw (le-ltb (length old) (record_length (count_in bs)) (omega (arith, a.exact))) in
    rw (← d.1)
    (ap (λ (n : ℕ). decided n (placed old 0 (bytes_of (contents_in bs)))) w ∙ ap (λ (t : List ℕ). accepted (placed old 0 t)) (bytes_again bs b a))

-- the first count numbers of the arrays that the reader answers
answer_lines : (bs : List ℕ) → take (length (lines_in bs)) (padded (lines_in bs)) ≡ lines_in bs
answer_lines bs = take_at (lines_in bs) _ _ refl

answer_fractions : (bs : List ℕ) → take (length (lines_in bs)) (padded (fractions_in bs)) ≡ fractions_in bs
answer_fractions bs = take_at (fractions_in bs) _ _ (count_fractions bs ∙ sym (count_lines bs))

pub answer_holds_contents : AnswerHoldsContents
answer_holds_contents bs k e =
    rw (← (decided_accepted (first_of (record_order bs)) (contents_in bs) k e).1) (rw (answer_lines bs, answer_fractions bs))

-- the entries, written and read again
lines_again : (ls xs : List ℕ) → length ls ≡ length xs → lines_of (length ls) (entries_bytes ls xs) ≡ ls
unfolding lines_of entries_bytes
lines_again [] xs e = refl
lines_again (l ∷ ls) [] e = absurd (omega arith)
lines_again (l ∷ ls) (x ∷ xs) e = ap (λ (t : List ℕ). l ∷ t) (lines_again ls xs (omega arith))

fractions_again : (ls xs : List ℕ) → length ls ≡ length xs → total xs < 2 ^ 32 → fractions_of (length ls) (entries_bytes ls xs) ≡ xs
unfolding fractions_of entries_bytes total
fractions_again [] [] e h = refl
fractions_again [] (x ∷ xs) e h = absurd (omega arith)
fractions_again (l ∷ ls) [] e h = absurd (omega arith)
fractions_again (l ∷ ls) (x ∷ xs) e h =
    let four : number4 (entry_bytes l x) 1 ≡ x = omega (arith, from_le_bytes-to_le_bytes_4 x (omega arith)) in
    rw (four, fractions_again ls xs (omega arith) (omega arith))

-- contents that the writer has accepted
module _ (k : Contents) (room : ℕ) (h : first_of (writer_order k room) ≡ 0) where
  abbrev last : Order
  last = room_order room (length k.lines)

  abbrev content : Order
  content = content_order k.lines k.fractions

  started : Start k
  started = start k (clear_first (start_order k) (content ++ last) tt h)

  content_clear : first_of content ≡ 0
  content_clear = clear_first content last tt (clear_second (start_order k) (content ++ last) tt h)

  sum_inside : total k.fractions ≤ most_sum
  sum_inside = ltb-false most_sum (total k.fractions) (or_parts (ltb (total k.fractions) least_sum) _ (unmet content tt content_clear 9)).1

  contents_again : contents_in (bytes_of k) ≡ k
  contents_again = rw (lines_again k.lines k.fractions started.same, fractions_again k.lines k.fractions started.same (omega (arith, sum_inside)))

  length_bytes : length (bytes_of k) ≡ record_length (length k.lines)
  length_bytes = omega (arith, length_entries k.lines k.fractions started.same)

  head_clear : first_of (head_order (bytes_of k)) ≡ 0
  head_clear =
      rw (
        le-ltb (length (bytes_of k)) 8 (omega (arith, length_bytes)),
        started.pair,
        ne_eqb _ _ started.entries.some,
        le-ltb _ _ started.entries.few,
        eq-eqb (length (bytes_of k)) (record_length (length k.lines)) length_bytes,
      )

  written_accepted : reading_of (bytes_of k) ≡ accepted k
  written_accepted =
      let c : first_of (content_order (lines_in (bytes_of k)) (fractions_in (bytes_of k))) ≡ 0 =
      ap (λ (q : Contents). first_of (content_order q.lines q.fractions)) contents_again ∙ content_clear in
      let z : first_of (record_order (bytes_of k)) ≡ 0 =
      sym (passes (head_order (bytes_of k)) (content_order (lines_in (bytes_of k)) (fractions_in (bytes_of k))) tt refl head_clear refl) ∙ c in
      ap (λ (n : ℕ). decided n (contents_in (bytes_of k))) z ∙ ap accepted contents_again

pub fills_its_bytes : FillsItsBytes
fills_its_bytes k old new e =
    let d = decided_accepted (first_of (writer_order k (length old))) (placed old 0 (bytes_of k)) new e in
    let n = length_bytes k (length old) d.0 in
    rw (← d.1)
    (record {
      same_length = placed_length old (bytes_of k) (record_length (length k.lines)) n (room_of k (length old) d.0).fits;
      front = placed_front old (bytes_of k) (record_length (length k.lines)) n;
      others = placed_others old (bytes_of k) (record_length (length k.lines)) n;
    })

pub written_then_read : WrittenThenRead
written_then_read k old new e =
    let d = decided_accepted (first_of (writer_order k (length old))) (placed old 0 (bytes_of k)) new e in
    ap reading_of (fills_its_bytes k old new e).front ∙ written_accepted k (length old) d.0
