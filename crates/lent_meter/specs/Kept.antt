-- What is shown of every lent meter: fresh words hold a meter, each call that may change them keeps that, and they hold one meter alone.
use Rattle.std.specs.Prelude.{◌≡◌, List, ℕ, Result}
use Rattle.records.specs.declared.refusal.Refusal.{Refusal}
use Rattle.meter.specs.declared.day.Counts.{Counts}
use Rattle.meter.specs.declared.Meter.{Meter}
use Rattle.meter.specs.State.{fresh_meter}
use Rattle.meter.specs.Calls.{analysis_of, metering_of}
use Rattle.meter.specs.Days.{day_of}
use Rattle.lent_meter.specs.Words.{packed}
use Rattle.lent_meter.specs.Lent.{Lent, OnWords, DayOnWords}

abbrev pub FreshIsLent : Type 0
FreshIsLent = Lent (packed fresh_meter)

abbrev pub AnalysisKeepsLent : Type 0
AnalysisKeepsLent = (k : ℕ) (bs : List ℕ) (n : ℕ) (before after : List (List ℕ)) → OnWords (λ (m : Meter). analysis_of m k bs) before n after → Lent before → Lent after

abbrev pub MeteringKeepsLent : Type 0
MeteringKeepsLent = (k v n : ℕ) (before after : List (List ℕ)) → OnWords (λ (m : Meter). metering_of m k v) before n after → Lent before → Lent after

abbrev pub DayKeepsLent : Type 0
DayKeepsLent =
    (k : ℕ) (file vs : List ℕ) (r : Result Counts Refusal) (before after : List (List ℕ)) → DayOnWords (λ (m : Meter). day_of m k file vs) before r after →
    Lent before → Lent after

-- words of one meter are not those of another
abbrev pub PackedIsInjective : Type 0
PackedIsInjective = (m n : Meter) → packed m ≡ packed n → m ≡ n
