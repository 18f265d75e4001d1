-- The encoding of records under tickets in a view.
use Rattle.std.specs.Prelude.{ℕ, List}
use Rattle.std.specs.Coded.{Coded, coded_ℕ, coded_list, coded×, code_by}
use Rattle.std.proofs.Common.{refl}
use Rattle.pop_model.specs.Logs.{LogRecord}

-- the parts of a record: unit, cube and entries
abbrev Parts : Type 0
Parts = ℕ × (List (ℕ × ℕ) × List ℕ)

-- the code of the parts
parts_coded : Coded Parts
parts_coded = coded× coded_ℕ (coded× (coded_list (coded× coded_ℕ coded_ℕ)) (coded_list coded_ℕ))

-- the code of a record
record_coded : Coded LogRecord
record_coded = code_by Parts parts_coded
    (λ r. (r.event.unit, (r.event.cube, r.entries)))
    (λ t. record { event = record { unit = t.0; cube = t.1.0 }; entries = t.1.1 })
    (λ _. refl)

-- the code of records under tickets
pub mine_coded : Coded (List (ℕ × LogRecord))
mine_coded = coded_list (coded× coded_ℕ record_coded)
