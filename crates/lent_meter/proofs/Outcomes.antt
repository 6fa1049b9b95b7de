-- What a call on lent words gives, from the number that its code found and what it wrote; and what a row's call gives, said of all the
-- words.
use mathlib.Core.Path.{◌≡◌, refl, sym, ap, subst, ◌∙◌}
use mathlib.Core.List.{List, [], ◌∷◌}
use Prim.Native.Nat.{ℕ, zero, suc, ◌≤◌, ◌<◌}
use native.Mathlib.Omega.{arith}
use lib.Dec.{ltb}
use lib.ListN.{length, get_or, set}
use lib.Seq.{set-get_or, get_or-set_other}
use Rattle.std.proofs.lemmas.List.{get_or-map, map-set}
use Rattle.std.specs.Prelude.{Ok}
use Rattle.records.specs.Order.{Order, first_of, accepted, decided, mapped}
use Rattle.records.specs.Answers.{Returns}
use Rattle.records.proofs.OrderLaws.{refuses, mapped_decided}
use Rattle.records.proofs.Returned.{refusal}
use Rattle.day_file.specs.Format.{blocks_of}
use Rattle.meter.specs.declared.day.Counts.{Counts}
use Rattle.meter.specs.declared.Stream.{Stream}
use Rattle.meter.specs.declared.Meter.{Meter}
use Rattle.meter.specs.State.{last_stream, Sound, fresh_stream, stream_at, with_stream}
use Rattle.meter.specs.Conditions.{day_order}
use Rattle.meter.specs.Days.{Day, turned, stream_day, day_of, GivesDay}
use Rattle.meter.proofs.Orders.{not_above}
use Rattle.meter.proofs.DayOnMeter.{day_on_meter}
use Rattle.lent_meter.specs.Words.{packed_stream, packed}
use Rattle.lent_meter.specs.Lent.{LentRow, Lent, Leaves, LeavesRow}

-- from the number
module _ {A B : Type 0} (f : A → B) (answer : A) (before : B) {n number : ℕ} {after : B} (is : number ≡ n) where
  pub number_refuses : (number ≡ 0 → ⊥) → after ≡ before → Returns (mapped f (decided n answer)) before number after
  number_refuses h e = refusal before (sym (mapped_decided f n answer ∙ refuses n (f answer) (λ z. h (is ∙ z)))) is e

module _ {words : List (List ℕ)} (m : Meter) (sound : Sound m) (holds : words ≡ packed m) (k : ℕ) where
  pub row_is : k ≤ last_stream → get_or words k [] ≡ packed_stream (stream_at m k)
  row_is low = ap (λ (w : List (List ℕ)). get_or w k []) holds ∙ get_or-map packed_stream m.streams k fresh_stream [] (omega (arith, sound.count))

  with_number : (new : Stream) (n : ℕ) {number : ℕ} {row : List ℕ} → Returns (mapped packed_stream (decided n new)) (get_or words k []) number row →
      Returns (mapped packed (decided n (with_stream m k new))) words number (set words k row)
  with_number new zero r =
      record {
        number_is = r.number_is;
        after_is = ap (set words k) r.after_is ∙ ap (λ (w : List (List ℕ)). set w k (packed_stream new)) holds ∙ sym (map-set packed_stream m.streams k new);
      }
  with_number new (suc n) r = record { number_is = r.number_is; after_is = ap (set words k) r.after_is ∙ set-get_or words k [] }

  -- the call on the stream k, from that on its row, where 13 does not hold
  pub lifted : k ≤ last_stream → (new : Stream) (rest : Order) {number : ℕ} {row : List ℕ} →
      Returns (mapped packed_stream (decided (first_of rest) new)) (get_or words k []) number row →
      Returns (mapped packed (decided (first_of ((13, ltb last_stream k) ∷ rest)) (with_stream m k new))) words number (set words k row)
  lifted low new rest {number} {row} r =
      subst (λ (n : ℕ). Returns (mapped packed (decided n (with_stream m k new))) words number (set words k row)) (not_above rest low)
      (with_number new (first_of rest) r)

  -- a day file that no number refuses, from what it gave on the stream's row
  pub day_lifted : k ≤ last_stream → (file vs : List ℕ) {c : Counts} {row : List ℕ} → 0 ≡ first_of (day_order k file (length vs)) →
      ◌≡◌ {A = Day (List ℕ)} (record { counts = c; left = row }) (turned packed_stream (stream_day (stream_at m k) (blocks_of file) vs)) →
      GivesDay (mapped (turned packed) (day_of m k file vs)) words (Ok c) (set words k row)
  day_lifted low file vs {c} {row} clear is =
      let d = stream_day (stream_at m k) (blocks_of file) vs in
      let within : k < length m.streams = omega (arith, sound.count) in
      let day : day_of m k file vs ≡ accepted (turned (with_stream m k) d) = rw (← clear, day_on_meter m k low within (blocks_of file) vs) in
      rw day
      (record {
        counts = ap (λ (e : Day (List ℕ)). accepted e.counts) is;
        stands =
            ap (λ (e : Day (List ℕ)). set words k e.left) is ∙ ap (λ (w : List (List ℕ)). set w k (packed_stream d.left)) holds
            ∙ sym (map-set packed_stream m.streams k d.left);
      })

-- what a call leaves of the words, where 13 refused it, and from what the row's call left of the row
pub left_alone : (k : ℕ) (words : List (List ℕ)) (number : ℕ) → Leaves k words number words
left_alone k words number = record { others = λ j other. refl; refusal = λ h. refl }

pub leaves_others : (k : ℕ) (words : List (List ℕ)) {number : ℕ} {row : List ℕ} → LeavesRow (get_or words k []) number row → Leaves k words number (set words k row)
leaves_others k words {row = row} left =
    record { others = λ j other. get_or-set_other words k j row [] other; refusal = λ h. ap (set words k) (left h) ∙ set-get_or words k [] }

pub lent_row : {words : List (List ℕ)} (k : ℕ) → Lent words → k ≤ last_stream → LentRow (get_or words k [])
lent_row k l low =
    record { stream = stream_at l.meter k; sound = l.sound.each k low; holds = row_is l.meter l.sound l.holds k low }
