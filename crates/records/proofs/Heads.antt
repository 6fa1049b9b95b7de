-- What is known of a record's head, and of contents to be written, where conditions of their orders do not hold.
use mathlib.Core.Path.{◌≡◌}
use mathlib.Core.Bool.{true, false}
use mathlib.Core.List.{List}
use Prim.Native.Nat.{ℕ, ◌≤◌}
use native.Mathlib.Omega.{arith}
use borrow.Author.Tests.{ltb-false, not-false, eqb-true, eqb-false}
use lib.ListN.{length}
use Rattle.std.proofs.lemmas.Bool.{or_parts}
use Rattle.records.specs.Order.{first_of}
use Rattle.records.specs.Format.{Contents, head_length, record_length, combustion_in, metering_in, count_in, lines_in, fractions_in}
use Rattle.records.specs.Counted.{count_lines}
use Rattle.records.specs.Conditions.{permitted, mark_differs, version_differs, count_outside, head_order, content_order, record_order, start_order, writer_order}
use Rattle.records.proofs.OrderLaws.{unmet, clear_first}

-- where 5 does not hold
pub record Count (n : ℕ) : Type 0 where
  pub some : n ≡ 0 → ⊥
  pub few : n ≤ 55

count : (n : ℕ) → count_outside n ≡ false → Count n
count n h = let e = or_parts _ _ h in record { some = eqb-false _ _ e.0; few = ltb-false _ _ e.1 }

-- where none of 1 to 6 holds
pub record Head (bs : List ℕ) : Type 0 where
  pub long : head_length ≤ length bs
  pub mark : mark_differs bs ≡ false
  pub version : version_differs bs ≡ false
  pub pair : permitted (combustion_in bs) (metering_in bs) ≡ true
  pub entries : Count (count_in bs)
  pub exact : length bs ≡ record_length (count_in bs)

pub head : (bs : List ℕ) → first_of (head_order bs) ≡ 0 → Head bs
head bs e =
    let h = unmet (head_order bs) tt e in
    record {
      long = ltb-false _ _ (h 1);
      mark = h 2;
      version = h 3;
      pair = not-false _ (h 4);
      entries = count _ (h 5);
      exact = eqb-true _ _ (not-false _ (h 6));
    }

-- what the writer needs: as many fractions as line numbers, at most 55, and room for the record
pub record Room (k : Contents) (room : ℕ) : Type 0 where
  pub same : length k.lines ≡ length k.fractions
  pub few : length k.lines ≤ 55
  pub fits : record_length (length k.lines) ≤ room

pub room_of : (k : Contents) (room : ℕ) → first_of (writer_order k room) ≡ 0 → Room k room
room_of k room e =
    let h = unmet (writer_order k room) tt e in
    record { same = eqb-true _ _ (not-false _ (h 19)); few = (count _ (h 5)).few; fits = ltb-false _ _ (h 20) }

-- where none of 19, 4 and 5 holds
pub record Start (k : Contents) : Type 0 where
  pub same : length k.lines ≡ length k.fractions
  pub pair : permitted k.combustion k.metering ≡ true
  pub entries : Count (length k.lines)

pub start : (k : Contents) → first_of (start_order k) ≡ 0 → Start k
start k e =
    let h = unmet (start_order k) tt e in
    record {
      same = eqb-true _ _ (not-false _ (h 19));
      pair = not-false _ (h 4);
      entries = count _ (h 5);
    }

-- an accepted record has at most 55 entries
pub few_lines : (bs : List ℕ) → first_of (record_order bs) ≡ 0 → length (lines_in bs) ≤ 55
few_lines bs h =
    let e = (head bs (clear_first (head_order bs) (content_order (lines_in bs) (fractions_in bs)) tt h)).entries.few in
    omega (arith, count_lines bs)
