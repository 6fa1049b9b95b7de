-- The answers of the calls on a record: document 01's number and values for each case, and what each call gives.
use Rattle.std.specs.Prelude.{◌≡◌, List, ◌++◌, ℕ, Result, length, drop, replicate}
use Rattle.records.specs.declared.Analysis.{Analysis}
use Rattle.records.specs.declared.refusal.Refusal.{Refusal}
use Rattle.records.specs.Order.{Outcome, refused, accepted, otherwise, mapped}
use Rattle.records.specs.Refusals.{Verdict, outcome}
use Rattle.records.specs.Format.{Contents}
use Rattle.records.specs.Calls.{reading_of, writing_of}

module _ {A : Type 0} where
  -- document 01's number, or the value, of each case of a verdict
  abbrev pub meaning : Verdict → A → Outcome A
  meaning v value = outcome (λ _. value) v

  -- A verdict and a value give an outcome: they mean it, and beside a refusal stands another value, which is named: the bytes
  -- that a lent buffer had before, or a meter as it was.
  pub record Gives (outcome : Outcome A) (other : A) (verdict : Verdict) (value : A) : Type 0 where
    pub means : meaning verdict value ≡ outcome
    pub stands : value ≡ otherwise other outcome

  -- document 01's number of a refusal, 0 where the call is accepted
  abbrev pub number_of : Outcome A → ℕ
  number_of (refused n) = n
  number_of (accepted a) = 0

  -- A number and lent memory return an outcome: the number is the outcome's, and the memory holds the answer or, after a refusal, what
  -- it held before.
  pub record Returns (outcome : Outcome A) (before : A) (number : ℕ) (after : A) : Type 0 where
    pub number_is : number ≡ number_of outcome
    pub after_is : after ≡ otherwise before outcome

-- an array of 55 that begins with a list, and holds 0 past it
abbrev pub padded : List ℕ → List ℕ
padded l = l ++ drop (length l) (replicate 55 0)

-- contents as the reader answers them
abbrev pub held : Contents → Analysis
held k =
    record {
      pair = record { combustion = k.combustion; metering = k.metering };
      count = length k.lines;
      lines = padded k.lines;
      fractions = padded k.fractions;
    }

-- the reader's answer
abbrev pub Reads : List ℕ → Result Analysis Refusal → Type 0
Reads bs r = outcome (λ (a : Analysis). a) r ≡ mapped held (reading_of bs)

-- the writer's answer, and the buffer afterwards
abbrev pub Writes : Contents → List ℕ → List ℕ → Verdict → Type 0
Writes k old new r = Gives (writing_of k old) old r new
