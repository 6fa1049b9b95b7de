-- Records and the writer by another order of the content, which is 7 to 12 of line numbers and fractions: statements on former answers
-- compare with it.
use Rattle.std.specs.Prelude.{List, ◌++◌, ℕ, length}
use Rattle.records.specs.Order.{Order, first_of, Outcome, decided}
use Rattle.records.specs.Format.{Contents, lines_in, fractions_in, contents_in, bytes_of, placed}
use Rattle.records.specs.Conditions.{head_order, start_order, room_order}

module _ (content_order : List ℕ → List ℕ → Order) where
  -- the order of a record, and of the writer
  abbrev pub record_order_by : List ℕ → Order
  record_order_by bs = head_order bs ++ content_order (lines_in bs) (fractions_in bs)

  abbrev pub writer_order_by : Contents → ℕ → Order
  writer_order_by k room = start_order k ++ (content_order k.lines k.fractions ++ room_order room (length k.lines))

  -- what reading a record, and writing contents, gives
  abbrev pub reading_by : List ℕ → Outcome Contents
  reading_by bs = decided (first_of (record_order_by bs)) (contents_in bs)

  abbrev pub writing_by : Contents → List ℕ → Outcome (List ℕ)
  writing_by k old = decided (first_of (writer_order_by k (length old))) (placed old 0 (bytes_of k))
