-- A chance that digests leave: two cubes that differ and have one digest. Gathering keeps both, as a test in
-- `stack_tests` shows.
use Rattle.std.proofs.Common.{◌≡◌, [], ◌∷◌, refl}
use Rattle.pop_instance.specs.Digests.{digest}

-- behind the leading 1 the first has the digits 0 and base + 2, the other 1 and 2
pub one_digest : digest ((0, 0) ∷ (1284865839, 1481765933) ∷ []) ≡ digest ((1, 0) ∷ (2, 0) ∷ [])
one_digest = refl
