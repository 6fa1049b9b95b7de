-- The cases of document 01 that print properties, further gases, and values per kilogram: lists and tests that compute.
use Rattle.std.specs.Prelude.{◌≡◌, Bool, true, ◌&&◌, List, [], ◌∷◌, ℕ, ◌<◌, eqb, replicate, pos, neg_ℤ}
use Rattle.components.specs.Tests.{all}
use Rattle.components.specs.Composition.{in_class}
use Rattle.records.specs.Order.{accepted, decided, mapped}
use Rattle.records.specs.Format.{Contents, contents, bytes_of}
use Rattle.records.specs.Calls.{reading_of}
use Rattle.records.specs.Cases.{same_outcome, annex_d, k2, full_gas, full_class_gas, up_from, limit_cases, class_cases}
use Rattle.records.specs.Cases as on-record
use Rattle.properties.specs.Chain.{S, S9, W, Six, properties_of}
use Rattle.properties.specs.Unrounded as unrounded
use Rattle.properties.specs.Distances.{Indexed}
use Rattle.properties.specs.PerKilogram.{MassBasis, per_kilogram_of}

abbrev pub six : ℕ → ℕ → ℕ → ℕ → ℕ → ℕ → Six
six Z Hs Hi rho d W = record { Z = Z; Hs = Hs; Hi = Hi; rho = rho; d = d; W = W }

abbrev pub same_six : Six → Six → Bool
same_six p q = eqb p.Z q.Z && eqb p.Hs q.Hs && eqb p.Hi q.Hi && eqb p.rho q.rho && eqb p.d q.d && eqb p.W q.W

-- the six properties that document 01 prints for K1, and Z and Hs that it prints for K2
abbrev pub printed1 : Six
printed1 = six 997709976 38959473 35144879 74087496 60459367 50105024

abbrev pub printed2 : ℕ × ℕ
printed2 = (998001910, 37781616)

abbrev pub K1 : Type 0
K1 = properties_of (bytes_of (annex_d 15 15)) ≡ accepted printed1

abbrev pub K2 : Type 0
K2 = mapped {B = ℕ × ℕ} (λ (p : Six). (p.Z, p.Hs)) (properties_of k2) ≡ accepted printed2

-- methane with hydrogen; the least methane with ten heavy lines; gases for which S/10 ends in .5 and in .4; every line
abbrev pub hydrogen_50000 : ℕ → ℕ → Contents
hydrogen_50000 c m = contents c m (1 ∷ 41 ∷ []) (950000 ∷ 50000 ∷ [])

abbrev heavy : ℕ → ℕ → Contents
heavy c m = contents c m (1 ∷ up_from 10 8) (500000 ∷ replicate 10 50000)

abbrev at_half : ℕ → ℕ → Contents
at_half c m = contents c m (1 ∷ 4 ∷ 16 ∷ []) (944343 ∷ 14351 ∷ 41306 ∷ [])

abbrev below_half : ℕ → ℕ → Contents
below_half c m = contents c m (1 ∷ 16 ∷ []) (990597 ∷ 9403 ∷ [])

abbrev every_line : ℕ → ℕ → Contents
every_line c m = contents c m full_gas.lines full_gas.fractions

-- of the hydrogen class: hydrogen alone, with each sum; the least hydrogen, with methane and nitrogen; a gas for which S/10 ends in .5
-- below 0, where upward is towards 0; every line
abbrev alone : ℕ → ℕ → ℕ → Contents
alone x c m = contents c m (41 ∷ []) (x ∷ [])

abbrev hydrogen_1000000 : ℕ → ℕ → Contents
hydrogen_1000000 = alone 1000000

abbrev hydrogen_999900 : ℕ → ℕ → Contents
hydrogen_999900 = alone 999900

abbrev hydrogen_1000100 : ℕ → ℕ → Contents
hydrogen_1000100 = alone 1000100

abbrev hydrogen_900000 : ℕ → ℕ → Contents
hydrogen_900000 c m = contents c m (1 ∷ 41 ∷ 52 ∷ []) (50000 ∷ 900000 ∷ 50000 ∷ [])

abbrev half_below_zero : ℕ → ℕ → Contents
half_below_zero c m = contents c m (1 ∷ 41 ∷ []) (313 ∷ 999687 ∷ [])

abbrev hydrogen_every_line : ℕ → ℕ → Contents
hydrogen_every_line c m = contents c m full_class_gas.lines full_class_gas.fractions

-- Gases and their properties; with K1, the gas of annex D stands at every permitted pair. The numbers are those of the plain version
-- of document 01, over a second transcription of the table: `cargo run --example expected -- gases` in rust/ prints the rows.
abbrev pub gases : List (Contents × Six)
gases =
    (annex_d 0 0, six 997243032 41182289 37098339 78192597 60477389 52955853)
    ∷ (annex_d 15 0, six 997243032 41118172 37092216 78192597 60477389 52873405)
    ∷ (annex_d 25 0, six 997243032 41075912 37087983 78192597 60477389 52819064)
    ∷ (annex_d 20 20, six 997826769 38270612 34539616 72815328 60455314 49220743)
    ∷ (annex_d 25 20, six 997826769 38251140 34537459 72815328 60455314 49195700)
    ∷ (hydrogen_50000 15 15, six 998217049 36490978 32819889 64999239 53042863 50103957)
    ∷ (hydrogen_50000 25 0, six 997851678 38468753 34631245 68593772 53053260 52814366)
    ∷ (heavy 0 0, six 947547549 133811348 123305978 270369180 209114709 92533855)
    ∷ (at_half 25 0, six 994384222 51025118 46337883 95485590 73852505 59374697)
    ∷ (below_half 15 15, six 997565249 39904699 35995306 72488537 59154532 51883591)
    ∷ (every_line 25 20, six 997700860 39004435 35244255 72051432 59821087 50429753)
    ∷ (hydrogen_1000000 15 15, six 999976960 12102221 10223131 8525901 6957592 45881288)
    ∷ (hydrogen_1000000 0 0, six 999984000 12788139 10777318 8994037 6956360 48485996)
    ∷ (hydrogen_1000000 15 0, six 999984000 12766723 10784457 8994037 6956360 48404798)
    ∷ (hydrogen_1000000 25 0, six 999984000 12752446 10788473 8994037 6956360 48350667)
    ∷ (hydrogen_1000000 20 20, six 999973990 11889188 10050456 8380508 6957961 45072454)
    ∷ (hydrogen_1000000 25 20, six 999973990 11882536 10052535 8380508 6957961 45047236)
    ∷ (hydrogen_999900 15 15, six 999976965 12101011 10222108 8525049 6956897 45878992)
    ∷ (hydrogen_1000100 15 15, six 999976955 12103432 10224154 8526754 6958288 45883584)
    ∷ (hydrogen_900000 15 15, six 999998512 12777073 10898002 16989414 13864273 34314907)
    ∷ (half_below_zero 15 15, six 999977109 12110233 10230555 8544470 6972745 45861749)
    ∷ (hydrogen_every_line 25 20, six 999999671 14456512 12484751 15159866 12586560 40748347)
    ∷ []

abbrev pub GasesHold : Type 0
GasesHold = all (λ (c : Contents × Six). same_outcome same_six (properties_of (bytes_of c.0)) (accepted c.1)) gases ≡ true

-- values per kilogram, superior and inferior
abbrev pub per : ℕ → ℕ → MassBasis
per superior inferior = record { superior = superior; inferior = inferior }

abbrev pub same_per_kilogram : MassBasis → MassBasis → Bool
same_per_kilogram v w = eqb v.superior w.superior && eqb v.inferior w.inferior

abbrev pub methane : ℕ → ℕ → Contents
methane c m = contents c m (1 ∷ []) (1000000 ∷ [])

-- Hm × 1,000,000 / M of the superior Hm at 15 °C is 5,217,187.5
abbrev pub half_gas : ℕ → ℕ → Contents
half_gas c m = contents c m (1 ∷ 2 ∷ 52 ∷ []) (905709 ∷ 60753 ∷ 33538 ∷ [])

-- Gases and their values per kilogram: methane at each combustion temperature, at 15 °C as document 02 prints it; the gas of annex D at
-- every permitted pair; three of the gases above; a gas on a half; gases of the hydrogen class. `cargo run --example expected -- kilograms` in
-- rust/ prints the rows.
abbrev pub per_kilogram_gases : List (Contents × MassBasis)
per_kilogram_gases =
    (methane 25 0, per 5551518 5002805)
    ∷ (methane 20 20, per 5554385 5003117)
    ∷ (methane 15 15, per 5557315 5003366)
    ∷ (methane 0 0, per 5566104 5004176)
    ∷ (annex_d 15 15, per 5258576 4743699)
    ∷ (annex_d 0 0, per 5266776 4744482)
    ∷ (annex_d 15 0, per 5258576 4743699)
    ∷ (annex_d 25 0, per 5253171 4743158)
    ∷ (annex_d 20 20, per 5255846 4743454)
    ∷ (annex_d 25 20, per 5253171 4743158)
    ∷ (hydrogen_50000 15 15, per 5614062 5049273)
    ∷ (heavy 0 0, per 4949209 4560652)
    ∷ (every_line 25 20, per 5413416 4891541)
    ∷ (half_gas 15 15, per 5217188 4705015)
    ∷ (hydrogen_1000000 25 0, per 14178779 11995139)
    ∷ (hydrogen_1000000 20 20, per 14186716 11992658)
    ∷ (hydrogen_1000000 15 15, per 14194653 11990674)
    ∷ (hydrogen_1000000 0 0, per 14218463 11982737)
    ∷ (hydrogen_900000 15 15, per 7520609 6414584)
    ∷ (hydrogen_every_line 25 20, per 9536042 8235397)
    ∷ []

abbrev pub PerKilogramGasesHold : Type 0
PerKilogramGasesHold = all (λ (c : Contents × MassBasis). same_outcome same_per_kilogram (per_kilogram_of (bytes_of c.0)) (accepted c.1)) per_kilogram_gases ≡ true

-- S and S9 below 0: of that gas, and of one for which S/10 ends in .7, where the nearest number is the one below
abbrev past_half : Contents
past_half = contents 15 15 (41 ∷ 52 ∷ []) (999997 ∷ 3 ∷ [])

pub record BelowZero : Type 0 where
  pub half : (S (half_below_zero 15 15) ≡ neg_ℤ (pos 47845065)) × (S9 (half_below_zero 15 15) ≡ neg_ℤ (pos 4784506))
  pub past : (S past_half ≡ neg_ℤ (pos 47999337)) × (S9 past_half ≡ neg_ℤ (pos 4799934))

-- an accepted gas of the hydrogen class, whose W is more than 7 from the formula
abbrev pub far_index : Contents
far_index = contents 0 0 (20 ∷ 41 ∷ []) (1155 ∷ 998945 ∷ [])

-- so no distance up to 7 is that of every accepted record of the class
abbrev pub AboveSeven : Type 0
AboveSeven =
    (t : ℕ) →
    ((bs : List ℕ) (k : Contents) → reading_of bs ≡ accepted k → in_class k.lines k.fractions ≡ true → Indexed t (W k) (unrounded.Hs k) (unrounded.d k)) →
    7 < t

-- the properties and the values per kilogram of each of `limit_cases` and `class_cases` are refused by its number, or answered where it is
-- accepted
abbrev pub number_gives : on-record.Case → Bool
number_gives c =
    same_outcome (λ (p q : Six). true) (properties_of c.bytes) (decided c.number (six 0 0 0 0 0 0))
    && same_outcome (λ (v w : MassBasis). true) (per_kilogram_of c.bytes) (decided c.number (per 0 0))

abbrev pub LimitsAnswered : Type 0
LimitsAnswered = (all number_gives limit_cases && all number_gives class_cases) ≡ true
