-- No exported function refuses a call with the number 0, and no offset after a block is 0.
use mathlib.Core.Path.{◌≡◌, refl, sym, ap, ◌∙◌}
use Prim.Native.Nat.{ℕ, ◌<◌}
use native.Mathlib.Omega.{arith}
use lib.ListN.{length}
use Rattle.records.specs.Order.{Outcome, refused, accepted, first_of, decided, mapped}
use Rattle.records.specs.Format.{contents_in, bytes_of, placed}
use Rattle.records.specs.Conditions.{record_order, writer_order}
use Rattle.records.proofs.OrderLaws.{decided_refused, mapped_decided}
use Rattle.properties.specs.Chain.{six_of}
use Rattle.properties.specs.PerKilogram.{mass_basis_of}
use Rattle.properties.proofs.Outcomes.{number_of_refused}
use Rattle.day_file.specs.Walk.{walk_order, Place, block, end, place_in, place_of, offset, next_after, bytes_where}
use Rattle.day_file.proofs.Walks.{block_ends_at_next}
use Rattle.meter.specs.State.{stream_at}
use Rattle.meter.specs.Conditions.{analysis_order, metering_order, totals_order, mean_order, day_order}
use Rattle.loonstool.specs.Exports.{NeverRefusedByZero, ZeroSaysAccepted, next_word, EndIsNoOffset}

-- a call that gives its number is refused by no 0
never : {A : Type 0} (n : ℕ) (answer : A) → NeverRefusedByZero (decided n answer)
never n answer e = (decided_refused n answer 0 e).1 refl

never_mapped : {A B : Type 0} (f : A → B) (n : ℕ) (answer : A) → NeverRefusedByZero (mapped f (decided n answer))
never_mapped f n answer e = never n (f answer) (sym (mapped_decided f n answer) ∙ e)

pub zero_says_accepted : ZeroSaysAccepted
zero_says_accepted =
    record {
      properties = λ bs e. (number_of_refused six_of bs 0 (sym e)).1 refl;
      per_kilogram = λ bs e. (number_of_refused mass_basis_of bs 0 (sym e)).1 refl;
      reading = λ bs. never (first_of (record_order bs)) (contents_in bs);
      writing = λ k old. never (first_of (writer_order k (length old))) (placed old 0 (bytes_of k));
      analysis = λ m k bs. never (first_of (analysis_order k bs (stream_at m k))) _;
      metering = λ m k v. never (first_of (metering_order k v (stream_at m k))) _;
      day = λ m k file vs. never (first_of (day_order k file (length vs))) _;
      walk = λ file at e. never_mapped next_after (first_of (walk_order file at)) (place_in file at) e;
      totals = λ m k. never (first_of (totals_order k)) _;
      mean = λ m k e. never (first_of (mean_order k (stream_at m k))) _;
    }

pub end_is_no_offset : EndIsNoOffset
end_is_no_offset file at next = go (place_of file at) refl
  where
    go : (p : Outcome Place) → place_of file at ≡ p → mapped next_after p ≡ accepted (offset next) → 0 < next_word (offset next)
    go (refused n) is e = absurd cc
    go (accepted end) is e = absurd cc
    go (accepted (block b n)) is e = omega (arith, (block_ends_at_next file b at next (ap (mapped next_after) is ∙ e) (ap bytes_where is)).after)
