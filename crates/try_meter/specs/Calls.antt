-- The calls of the input: their numbers, and the meter after each.
use Rattle.std.specs.Prelude.{◌≡◌, cond, List, ℕ, zero, suc, ◌+◌, ◌*◌, eqb, get_or, take, drop}
use Rattle.records.specs.Format.{number2, number4}
use Rattle.meter.specs.declared.Meter.{Meter}
use Rattle.meter.specs.State.{fresh_meter}
use Rattle.meter.specs.Calls.{after_analysis, after_metering}
use Rattle.try_meter.specs.declared.call.Call.{Call}
use Rattle.try_meter.specs.declared.call.Kind.{Kind}
use Rattle.try_meter.specs.declared.call.Kind.TheVariants.{Fresh, Analysis, Metering, Filling, Reading}

-- the 8-byte number at an offset, least significant byte first
abbrev pub number8 : List ℕ → ℕ → ℕ
number8 bs at = number4 bs at + 4294967296 * number4 bs (at + 4)

-- the kind of a letter: `n`, `a`, `m` and `f`, and any other
abbrev pub kind_of : ℕ → Kind
kind_of letter =
    cond (eqb letter 110) Fresh
    (cond (eqb letter 97) Analysis
    (cond (eqb letter 109) Metering
    (cond (eqb letter 102) Filling Reading)))

-- a meter after n calls that each meter 10,000,000 dm³ on the stream k
unfoldable pub filled_by : ℕ → Meter → ℕ → Meter
filled_by zero m k = m
filled_by (suc n) m k = after_metering (filled_by n m k) k 10000000

-- a meter after a call of the input: `n` takes a fresh one, `a` is an analysis, `m` a metering call, and `f` 99,999 of them; a reading
-- changes nothing
abbrev pub after_call : Meter → Kind → ℕ → ℕ → List ℕ → Meter
after_call m Fresh k v bs = fresh_meter
after_call m Analysis k v bs = after_analysis m k bs
after_call m Metering k v bs = after_metering m k v
after_call m Filling k v bs = filled_by 99999 m k
after_call m Reading k v bs = m

-- where a call's title, its record and the next call begin
abbrev pub title_at : ℕ
title_at = 21

abbrev pub record_at : List ℕ → ℕ
record_at bs = title_at + number2 bs 1

abbrev pub next_at : List ℕ → ℕ
next_at bs = record_at bs + number2 bs 3

-- the first call of the bytes, and the bytes after it
pub record IsFirst (bs : List ℕ) (call : Call) (rest : List ℕ) : Type 0 where
  pub kind_is : call.kind ≡ kind_of (get_or bs 0 0)
  pub stream_is : call.stream ≡ number8 bs 5
  pub volume_is : call.volume ≡ number8 bs 13
  pub title_is : call.title.now ≡ take (number2 bs 1) (drop title_at bs)
  pub record_is : call.bytes.now ≡ take (number2 bs 3) (drop (record_at bs) bs)
  pub rest_is : rest ≡ drop (next_at bs) bs
