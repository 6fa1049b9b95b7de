-- Halves on both sides of 0, roots next to a square, candidates of a search: the definitions compute them.
use mathlib.Core.Path.{◌≡◌, refl}
use mathlib.Core.List.{[], ◌∷◌}
use lib.IntN.{pos, negsuc}
use Rattle.rounding.specs.Near.{near, near_z, floor}
use Rattle.rounding.specs.Root.{root, root_from}
use Rattle.rounding.specs.Search.{next_candidate, first_candidate, round_of, candidates_from, candidates}

half_up : (near 4 10 ≡ 0) × (near 5 10 ≡ 1) × (near 14 10 ≡ 1) × (near 15 10 ≡ 2)
unfolding near
half_up = (refl, refl, refl, refl)

-- -0.4 and -0.5 give 0, -0.6 and -1.5 give -1, -1.6 gives -2
half_up_below_zero :
    (near_z (negsuc 3) 10 ≡ pos 0)
    × (near_z (negsuc 4) 10 ≡ pos 0)
    × (near_z (negsuc 5) 10 ≡ negsuc 0)
    × (near_z (negsuc 14) 10 ≡ negsuc 0)
    × (near_z (negsuc 15) 10 ≡ negsuc 1)
unfolding near_z floor
half_up_below_zero = (refl, refl, refl, refl, refl)

-- the last square below 2^64, and 1 less; the largest number of 64 bits
roots : (root 18446744065119617025 ≡ 4294967295) × (root 18446744065119617024 ≡ 4294967294) × (root 18446744073709551615 ≡ 4294967295)
unfolding root root_from
roots = (refl, refl, refl)

-- the candidates for relative densities: 0.6084 begins with the root, K1 and 0.07 (hydrogen) take two rounds, 0.7 three
searches :
    (candidates 608400000000000000 ≡ 780000000 ∷ [])
    × (candidates 604593670000000000 ≡ 777560044 ∷ 777556216 ∷ [])
    × (candidates 70000000000000000 ≡ 264575471 ∷ 264575131 ∷ [])
    × (candidates 700000000000000000 ≡ 838717948 ∷ 836662551 ∷ 836660026 ∷ [])
unfolding next_candidate first_candidate round_of candidates_from candidates
searches = (refl, refl, refl, refl)
