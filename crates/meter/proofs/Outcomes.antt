-- What a call on a meter gives, from what the call on the named stream gives.
use mathlib.Core.Path.{◌≡◌, refl, sym, subst, ap, ◌∙◌}
use mathlib.Core.List.{List, ◌∷◌}
use Prim.Native.Nat.{ℕ, zero, suc, ◌≤◌, ◌<◌}
use lib.Dec.{ltb}
use lib.ListN.{length}
use lib.Seq.{set-get_or}
use Rattle.std.proofs.lemmas.List.{get_or_default}
use Rattle.records.specs.Refusals.{Verdict}
use Rattle.std.specs.Prelude.{Ok, Err, get_or}
use Rattle.records.specs.Order.{Order, first_of, decided, mapped}
use Rattle.records.specs.Answers.{meaning, Gives}
use Rattle.meter.specs.declared.Stream.{Stream}
use Rattle.meter.specs.declared.Meter.{Meter}
use Rattle.meter.specs.State.{last_stream, fresh_stream, stream_at, with_stream}
use Rattle.meter.proofs.Orders.{not_above}

-- a verdict beside a function of a value
pub meaning_mapped : {A B : Type 0} (f : A → B) (v : Verdict) (a : A) → meaning v (f a) ≡ mapped f (meaning v a)
meaning_mapped f (Ok u) a = refl
meaning_mapped f (Err e) a = refl

module _ (m : Meter) (k : ℕ) (new : Stream) {v : Verdict} {s : Stream} where
  replaced : (n : ℕ) → Gives (decided n new) (stream_at m k) v s → Gives (decided n (with_stream m k new)) m v (with_stream m k s)
  replaced zero g =
      record { means = meaning_mapped (with_stream m k) v s ∙ ap (mapped (with_stream m k)) g.means; stands = ap (with_stream m k) g.stands }
  replaced (suc n) g =
      record {
        means = meaning_mapped (with_stream m k) v s ∙ ap (mapped (with_stream m k)) g.means;
        stands = ap (with_stream m k) g.stands ∙ ap (λ (l : List Stream). record { streams = l }) (set-get_or m.streams k fresh_stream);
      }

  pub on_stream : (rest : Order) → k ≤ last_stream → Gives (decided (first_of rest) new) (stream_at m k) v s →
      Gives (decided (first_of ((13, ltb last_stream k) ∷ rest)) (with_stream m k new)) m v (with_stream m k s)
  on_stream rest low g = rw (← not_above rest low) (replaced (first_of rest) g)

-- the same of the stream at an index that is the named one, whatever the index is made of
pub on_index : (m : Meter) (d : Stream) {k i : ℕ} {v : Verdict} {s : Stream} (rest : Stream → Order) (new : Stream → Stream) → k ≤ last_stream → k < length m.streams → i ≡ k →
    Gives (decided (first_of (rest (get_or m.streams i d))) (new (get_or m.streams i d))) (get_or m.streams i d) v s →
    Gives (decided (first_of ((13, ltb last_stream k) ∷ rest (stream_at m k))) (with_stream m k (new (stream_at m k)))) m v (with_stream m i s)
on_index m d {k} {i} {v} {s} rest new low within same =
    let given : ℕ → Type 0 = λ j. Gives (decided (first_of (rest (get_or m.streams j d))) (new (get_or m.streams j d))) (get_or m.streams j d) v s in
    let gives : ℕ → Type 0 = λ j. Gives (decided (first_of ((13, ltb last_stream k) ∷ rest (stream_at m k))) (with_stream m k (new (stream_at m k)))) m v (with_stream m j s) in
    let at_k : given k → gives k = λ g. on_stream m k (new (stream_at m k)) (rest (stream_at m k)) low (rw (get_or_default m.streams k d fresh_stream within) at g) in
    subst (λ j. given j → gives j) (sym same) at_k
