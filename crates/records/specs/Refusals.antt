-- The numbers of the refusals ("When a call says no" of document 01, and W-206 of document 02), and what the answer of a call says by them.
use Rattle.std.specs.Prelude.{ℕ, Result, Ok, Err}
use Rattle.records.specs.declared.refusal.Refusal.{Refusal}
use Rattle.records.specs.declared.refusal.Refusal.TheVariants as refusal
use Rattle.records.specs.Order.{Outcome, refused, accepted}

abbrev pub number : Refusal → ℕ
number refusal.TooShort = 1
number refusal.MarkDiffers = 2
number refusal.VersionDiffers = 3
number refusal.PairNotPermitted = 4
number refusal.CountOutside = 5
number refusal.LengthDiffers = 6
number refusal.LineOutOfOrder = 7
number refusal.FractionZero = 8
number refusal.SumOutside = 9
number refusal.MethaneLow = 10
number refusal.AboveLimit = 11
number refusal.WaterHigh = 12
number refusal.StreamAbove = 13
number refusal.PairDiffers = 14
number refusal.VolumeAbove = 15
number refusal.NoAnalysis = 16
number refusal.TotalPasses = 17
number refusal.TotalZero = 18
number refusal.ListsDiffer = 19
number refusal.RoomShort = 20
number refusal.NoDayFile = 21
number refusal.OffsetOutside = 22
number refusal.BlockCut = 23

-- accepted, or refused
abbrev pub Verdict : Type 0
Verdict = Result Unit Refusal

-- the number that an answer refuses with, 0 where it is an acceptance
abbrev pub number_in : {A : Type 0} → Result A Refusal → ℕ
number_in (Ok a) = 0
number_in (Err e) = number e

-- the outcome that an answer means, its value turned into another
abbrev pub outcome : {A B : Type 0} → (A → B) → Result A Refusal → Outcome B
outcome f (Ok a) = accepted (f a)
outcome f (Err e) = refused (number e)
