-- What a day file returns in the memory that is lent, from the words after it and its counts.
use mathlib.Core.Path.{◌≡◌, ap}
use mathlib.Core.List.{List}
use Prim.Native.Nat.{ℕ}
use Rattle.std.specs.Prelude.{Result, Ok, Err}
use Rattle.std.specs.Result.{MatchResult, IsOkAnd}
use Rattle.records.specs.declared.refusal.Refusal.{Refusal}
use Rattle.records.specs.Order.{Outcome, refused, accepted, otherwise, mapped}
use Rattle.records.specs.Refusals.{outcome}
use Rattle.records.specs.Answers.{Returns}
use Rattle.meter.specs.declared.day.Counts.{Counts}
use Rattle.meter.specs.declared.Meter.{Meter}
use Rattle.meter.specs.Days.{Day, turned, counts_meaning, counts_in, left_in, GivesDay}
use Rattle.lent_meter.specs.Words.{packed, packed_counts}
use Rattle.lent_meter.specs.Lent.{packed_day}

-- counts turned into words
in_words : (r : Result Counts Refusal) (a : Result (List ℕ) Refusal) → MatchResult r (λ x. IsOkAnd a (λ y. y ≡ packed_counts x)) (λ e. a ≡ Err e) →
    outcome (λ x. x) a ≡ mapped packed_counts (counts_meaning r)
in_words (Ok x) (Ok y) h = ap accepted h
in_words (Ok x) (Err e) h = absurd h
in_words (Err e) a h = rw h

pub day_returned : (o : Outcome (Day Meter)) (r : Result Counts Refusal) (a : Result (List ℕ) Refusal) {w w₁ : List (List ℕ)} {c c₁ : List ℕ} {n : ℕ} →
    GivesDay (mapped (turned packed) o) w r w₁ → MatchResult r (λ x. IsOkAnd a (λ y. y ≡ packed_counts x)) (λ e. a ≡ Err e) →
    Returns (outcome (λ x. x) a) c n c₁ → Returns (mapped packed_day o) (w, c) n (w₁, c₁)
day_returned o r a {w} {w₁} {c} {c₁} {n} gives counted returns = go o gives.stands (rw (in_words r a counted, gives.counts) at returns)
  where
    go : (o : Outcome (Day Meter)) → w₁ ≡ otherwise w (left_in (mapped (turned packed) o)) →
        Returns (mapped packed_counts (counts_in (mapped (turned packed) o))) c n c₁ → Returns (mapped packed_day o) (w, c) n (w₁, c₁)
    go (refused k) stands returns = record { number_is = returns.number_is; after_is = rw (stands, returns.after_is) }
    go (accepted d) stands returns = record { number_is = returns.number_is; after_is = rw (stands, returns.after_is) }
