-- The cases K1 to K10 of document 01, K9 among calls on other streams, a computed one of the inferior energy and the mass, day files, and
-- the records of `limit_cases` and `class_cases` as analyses, and a stream that takes gases of both classes, as one list, and one test over
-- the definitions that computes to true over the whole list. Values per kilogram stand in crates/properties/specs/Cases.antt.
use Rattle.std.specs.Prelude.{◌≡◌, Bool, true, false, ◌&&◌, List, [], ◌∷◌, map, length, take, ℕ, ◌*◌, ◌-◌, eqb, leb, ℤ, pos, nat_abs, ◌-ℤ◌}
use Rattle.components.specs.Table.{entry_of}
use Rattle.components.specs.Table as table
use Rattle.components.specs.Rule.{atoms_of, water_heat, allowance, excess}
use Rattle.components.specs.Tests.{all}
use Rattle.records.specs.Order.{refused, accepted, decided, mapped}
use Rattle.records.specs.Format.{contents, bytes_of}
use Rattle.records.specs.Cases.{same_list, same_outcome, annex_d, k2}
use Rattle.records.specs.Cases as on-record
use Rattle.day_file.specs.Format.{file_of}
use Rattle.properties.specs.Chain.{Six, properties_of}
use Rattle.properties.specs.Cases.{same_six, printed1, printed2}
use Rattle.tally.specs.Tally.{superior, inferior, analysis, metering, totals, mean, Call, on, Totals, Given, done, totals_are, mean_is, Answer, Tally, fresh_tally, above_last, answer_to, tally_after, tallied, Listed, single, day, counts_as, Counted, Reply, answered, counted, reply_to}
use Rattle.tally.specs.OtherStreams.{calls_on, of_the_meter, calls_of, answers_of}

-- figures of the rule of the component table: a line, the place of a temperature among 25, 20, 15 and 0 °C, the line's h superior and
-- inferior, twice their difference, its hydrogen atoms a, the superior h of water w, and a × w
pub record Figures : Type 0 where
  pub line : ℕ
  pub place : ℕ
  pub superior : ℕ
  pub inferior : ℕ
  pub twice : ℕ
  pub atoms : ℕ
  pub water : ℕ
  pub product : ℕ

pub data Case : Type 0 where
  -- a record and its six properties, and a record and its Z and Hs
  six : List ℕ → Six → Case
  two : List ℕ → ℕ × ℕ → Case
  -- a record, read and written, with the number that refuses it, 0 where it is accepted
  number : on-record.Case → Case
  -- calls from a fresh meter, each with its answer
  calls : List (Call × Answer) → Case
  -- calls as they are listed, day files among them, each with its reply
  listed : List (Listed × Reply) → Case
  -- the table's rule
  rule : Figures → Case

-- each of the record cases, before further cases
abbrev pub each_number : List on-record.Case → List Case → List Case
each_number [] more = more
each_number (c ∷ cs) more = number c ∷ each_number cs more

-- the record of each as an analysis on the stream 0 of a fresh meter, refused by its number, or accepted
abbrev pub each_analysis : List on-record.Case → List Case → List Case
each_analysis [] more = more
each_analysis (c ∷ cs) more = calls ((on 0 (analysis c.bytes), decided c.number done) ∷ []) ∷ each_analysis cs more

-- K2's totals after 1,000 dm³: volume and superior energy are K9's, the inferior energy and the mass are computed; and after 2,000 dm³,
-- where the mass has passed 1 kg
abbrev pub after1000 : Totals
after1000 =
    record {
      volume = 1000;
      superior = record { whole = 37; rest = 781616000 };
      inferior = record { whole = 34; rest = 15574000 };
      mass = record { whole = 0; rest = 67985382000 };
    }

abbrev pub after2000 : Totals
after2000 =
    record {
      volume = 2000;
      superior = record { whole = 75; rest = 563232000 };
      inferior = record { whole = 68; rest = 31148000 };
      mass = record { whole = 1; rest = 35970764000 };
    }

-- after 1,000 dm³ of methane and 1,000 dm³ of hydrogen
abbrev pub mixed : Totals
mixed =
    record {
      volume = 2000;
      superior = record { whole = 49; rest = 883837000 };
      inferior = record { whole = 44; rest = 238705000 };
      mass = record { whole = 0; rest = 76511283000 };
    }

-- K9, and the same among calls on the stream 1, which takes the gas of annex D, and on the stream 16
abbrev pub k9 : List (Call × Answer)
k9 =
    (on 0 (metering 1000), refused 16)
    ∷ (on 0 (analysis k2), accepted done)
    ∷ (on 0 (metering 1000), accepted done)
    ∷ (on 0 totals, accepted (totals_are after1000))
    ∷ (on 0 (mean superior), accepted (mean_is 37781616))
    ∷ []

abbrev pub shared : List (Call × Answer)
shared =
    (on 1 (analysis (bytes_of (annex_d 15 15))), accepted done)
    ∷ (on 0 (metering 1000), refused 16)
    ∷ (on 1 (metering 7), accepted done)
    ∷ (on 0 (analysis k2), accepted done)
    ∷ (on 16 (analysis k2), refused 13)
    ∷ (on 1 (analysis k2), accepted done)
    ∷ (on 0 (metering 1000), accepted done)
    ∷ (on 0 totals, accepted (totals_are after1000))
    ∷ (on 16 totals, refused 13)
    ∷ (on 1 (mean superior), accepted (mean_is 38959473))
    ∷ (on 0 (mean superior), accepted (mean_is 37781616))
    ∷ []

-- hydrogen, of which Hs, Hi and rho are 12,102,221, 10,223,131 and 8,525,901, after methane on a stream, and methane again
abbrev pub both_classes : List (Call × Answer)
both_classes =
    (on 0 (analysis k2), accepted done)
    ∷ (on 0 (metering 1000), accepted done)
    ∷ (on 0 (analysis (bytes_of (contents 15 15 (41 ∷ []) (1000000 ∷ [])))), accepted done)
    ∷ (on 0 (metering 1000), accepted done)
    ∷ (on 0 totals, accepted (totals_are mixed))
    ∷ (on 0 (mean superior), accepted (mean_is 24941919))
    ∷ (on 0 (mean inferior), accepted (mean_is 22119353))
    ∷ (on 0 (analysis (bytes_of (contents 15 15 (1 ∷ 41 ∷ 52 ∷ []) (50000 ∷ 899999 ∷ 50001 ∷ [])))), refused 10)
    ∷ (on 0 (analysis k2), accepted done)
    ∷ []

-- a day file with K2, an empty block, whose record is refused by 1, and K2 again
abbrev pub a_day : List ℕ
a_day = file_of (k2 ∷ [] ∷ k2 ∷ [])

-- volumes for its blocks: the second is refused by 15
abbrev pub day_volumes : List ℕ
day_volumes = 1000 ∷ 10000001 ∷ 1000 ∷ []

-- the same file without its last byte
abbrev pub cut_day : List ℕ
cut_day = take (length a_day - 1) a_day

-- day files as they are listed, among single calls: refused ones, 13 before 21, 21 before 19, 23 before 19, and 19 for a volume too few and
-- for one too many; one of which two of three analyses and two of three volumes are accepted; one of the same bytes on the stream 15, which
-- takes no gas at their pair; and one of no blocks
abbrev pub day_list : List (Listed × Reply)
day_list =
    (day 16 [] [], counted (refused 13))
    ∷ (day 0 [] day_volumes, counted (refused 21))
    ∷ (day 0 cut_day [], counted (refused 23))
    ∷ (day 0 a_day (1000 ∷ 1000 ∷ []), counted (refused 19))
    ∷ (day 0 a_day (1000 ∷ 1000 ∷ 1000 ∷ 1000 ∷ []), counted (refused 19))
    ∷ (single (on 0 (mean superior)), answered (refused 18))
    ∷ (day 0 a_day day_volumes, counted (accepted (record { analyses = 2; volumes = 2 })))
    ∷ (single (on 0 totals), answered (accepted (totals_are after2000)))
    ∷ (single (on 15 (analysis (bytes_of (annex_d 0 0)))), answered (accepted done))
    ∷ (day 15 a_day day_volumes, counted (accepted (record { analyses = 0; volumes = 2 })))
    ∷ (single (on 15 (mean superior)), answered (accepted (mean_is 41182289)))
    ∷ (day 15 (file_of []) [], counted (accepted (record { analyses = 0; volumes = 0 })))
    ∷ []

abbrev pub cases : List Case
cases =
    six (bytes_of (annex_d 15 15)) printed1  -- K1
    ∷ two k2 printed2  -- K2
    ∷ each_number on-record.cases  -- K1 to K8
    (calls k9  -- K9
    ∷ calls shared  -- the same among calls on other streams
    ∷ calls
    ((on 15 (analysis k2), accepted done)
    ∷ (on 15 (mean inferior), refused 18)
    ∷ (on 15 (metering 1000), accepted done)
    ∷ (on 15 totals, accepted (totals_are after1000))
    ∷ (on 15 (mean inferior), accepted (mean_is 34015574))
    ∷ (on 16 (mean inferior), refused 13)
    ∷ (on 15 (metering 1000), accepted done)
    ∷ (on 15 totals, accepted (totals_are after2000))
    ∷ [])  -- computed: K2's inferior energy, its mean and the mass, with 18 before the volume and 13 past the last stream
    ∷ listed day_list
    ∷ each_analysis on-record.limit_cases  -- 10, 11 and 12 before 9, and 9 alone
    (each_analysis on-record.class_cases  -- the hydrogen class
    (calls both_classes
    ∷ rule (record { line = 23; place = 0; superior = 2700200; inferior = 2524100; twice = 352200; atoms = 8; water = 44016; product = 352128 })  -- K10
    ∷ [])))

-- the same answer: the number of a refusal, or the figures that are given
abbrev pub figures_of : Given → List ℕ
figures_of done = []
figures_of (totals_are t) = t.volume ∷ t.superior.whole ∷ t.superior.rest ∷ t.inferior.whole ∷ t.inferior.rest ∷ t.mass.whole ∷ t.mass.rest ∷ []
figures_of (mean_is x) = x ∷ []

abbrev pub same_answer : Answer → Answer → Bool
same_answer = same_outcome (λ (a b : Given). same_list (figures_of a) (figures_of b))

abbrev pub answers_hold : Tally → List (Call × Answer) → Bool
answers_hold t [] = true
answers_hold t ((c, a) ∷ rest) = same_answer (answer_to t c) a && answers_hold (tally_after t c) rest

abbrev pub same_counted : Counted → Counted → Bool
same_counted a b = eqb a.analyses b.analyses && eqb a.volumes b.volumes

abbrev pub same_reply : Reply → Reply → Bool
same_reply (answered a) (answered b) = same_answer a b
same_reply (answered a) (counted b) = false
same_reply (counted a) (answered b) = false
same_reply (counted a) (counted b) = same_outcome same_counted a b

abbrev pub replies_hold : Tally → List (Listed × Reply) → Bool
replies_hold t [] = true
replies_hold t ((l, r) ∷ rest) = same_reply (reply_to t l) r && replies_hold (tallied t (counts_as l)) rest

abbrev pub is : ℤ → ℕ → Bool
is z n = eqb (nat_abs (z -ℤ pos n)) 0

abbrev pub rule_holds : Figures → Bool
rule_holds f =
    is (entry_of f.line (table.superior f.place)) f.superior
    && is (entry_of f.line (table.inferior f.place)) f.inferior
    && eqb (2 * (f.superior - f.inferior)) f.twice
    && eqb (atoms_of f.line) f.atoms
    && is (water_heat f.place) f.water
    && eqb (f.atoms * f.water) f.product
    && leb (nat_abs (excess f.line f.place)) (allowance f.line)

abbrev pub holds : Case → Bool
holds (six bs p) = same_outcome same_six (properties_of bs) (accepted p)
holds (two bs p) = same_outcome (λ (a b : ℕ × ℕ). eqb a.0 b.0 && eqb a.1 b.1) (mapped (λ (q : Six). (q.Z, q.Hs)) (properties_of bs)) (accepted p)
holds (number c) = on-record.case_holds c
holds (calls cs) = answers_hold fresh_tally cs
holds (listed ls) = replies_hold fresh_tally ls
holds (rule f) = rule_holds f

abbrev pub CasesHold : Type 0
CasesHold = all holds cases ≡ true

-- the calls of a list, and their answers
abbrev pub calls_in : List (Call × Answer) → List Call
calls_in = map (λ (p : Call × Answer). p.0)

abbrev pub answers_in : List (Call × Answer) → List Answer
answers_in = map (λ (p : Call × Answer). p.1)

-- of the calls of `shared`, those on the stream 0 are those of K9, with its answers; two name a stream above 15, and nine do not
pub record SharedHolds : Type 0 where
  pub calls : calls_of 0 (calls_in shared) ≡ calls_in k9
  pub answers : answers_of 0 (calls_in shared) (answers_in shared) ≡ answers_in k9
  pub above : calls_on above_last (calls_in shared) ≡ on 16 (analysis k2) ∷ on 16 totals ∷ []
  pub others : length (calls_on of_the_meter (calls_in shared)) ≡ 9
