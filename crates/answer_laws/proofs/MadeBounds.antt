-- What is made from an input over stacks that arguments or a head may give is an instance, and its events have numbers
-- of 32 bits. Both follow from the limits on inputs, on sides and on stacks. The same holds for what a certificate
-- runs.
use Rattle.std.proofs.Common.{◌≡◌, ◌<◌, ◌≤◌, ◌+◌, ◌-◌, ◌^◌, ℕ, suc, true, List, [], ◌∷◌, length, map, get_or, Ok, refl, sym, subst, arith, Contains, Option, None, Some, IfSome, inl, inr}
use Rattle.std.specs.Prelude.{nat_le, sum_by, unwrap_or}
use Rattle.std.specs.List.Sorted.{IsStrictlyIncreasing}
use Rattle.std.proofs.lemmas.Bool.{and_parts, leb-true, cases_lt}
use Rattle.std.proofs.lemmas.List.{length-replicate, get_or_past}
use Rattle.std.proofs.lemmas.List.Elements.{Contains-get_or}
use Rattle.std.proofs.lemmas.List.FromFn.{length-map-range_with_len}
use Rattle.std.proofs.lemmas.List.Sums.{get_or-le-sum_by}
use Rattle.std.proofs.lemmas.Option.{slice_get_within}
use Rattle.pop_model.specs.Stacks.{Origin, height_from, row_of, IsTable}
use Rattle.pop_model.specs.Stacks.Origin.{Given, Keyed}
use Rattle.pop_model.specs.Popping.{Cube}
use Rattle.pop_model.specs.Families.{units_of}
use Rattle.pop_model.specs.Instances.{Instance, IsInstance}
use Rattle.pop_model.proofs.Rising.{head_member, tail_member, below_members, rising_tail}
use Rattle.pop_stacks.specs.Faults.{IsSound}
use Rattle.pop_stacks.specs.declared.stack_spec.StackSpec.{StackSpec}
use Rattle.pop_stacks.specs.declared.stack_spec.StackSpec.TheVariants.{Key as KeyedStacks, Given as GivenStacks}
use Rattle.pop_stacks.specs.Tables.{origin_of}
use Rattle.pop_words.specs.Values.{are_within}
use Rattle.pop_words.specs.declared.command.Command.{Command}
use Rattle.pop_words.specs.declared.job.Job.{Job}
use Rattle.pop_words.specs.CommandLines.{Asks}
use Rattle.pop_words.proofs.JobsInRange.{asked_height, asked_grow}
use Rattle.dimacs_read.specs.Cnf.{Cnf}
use Rattle.dimacs_read.specs.CnfText.{AnswersCnf}
use Rattle.dimacs_read.specs.Falsifying.{AreEventsOf}
use Rattle.graph_read.specs.Graphs.{GraphOf, IsGraph}
use Rattle.sink_popping.specs.Sinks.{AreSinksOf}
use Rattle.cycle_popping.specs.Trees.{heads_at, heads_of_tree}
use Rattle.pop_log.specs.Candidates.{NumbersFit}
use Rattle.run_cert.specs.Heads.{MayBeStacks, MayBeHeight}
use Rattle.run_cert.specs.Certificates.{Certificate, IsCertOf}
use Rattle.run_cert.proofs.AskedStacks.{asked_stacks}
use Rattle.pop_print.specs.declared.facts.Facts.{Facts}
use Rattle.job_subjects.specs.declared.wanted.Wanted.{Wanted}
use Rattle.job_subjects.specs.Subjects.{Subject, pair_weights, assignments, orientations, arrows_to, IsSubjectOf}
use Rattle.job_subjects.specs.Made.{IsMade}
use Rattle.job_subjects.proofs.MadeInstances.{count_of_weights}
use Rattle.top_call.specs.Answers.{last_height, origin_for}
use Rattle.top_call.specs.Replays.{wanted_of, HasLog}
use Rattle.answer_laws.proofs.SubjectKinds.{HasFamily, subject_family, graph_known, holds_of, with_arrows}
use Rattle.answer_laws.specs.Complete.{HasLegalLog}
use Rattle.dimacs_read.proofs.GrammarLaw as cnf

-- ---- stacks

-- given rows are within the limits of words, and keyed stacks have a height
abbrev pub AreShort : Origin → Type 0
AreShort (Given rows) = are_within rows ≡ true
AreShort (Keyed key sample height) = (0 < height) × (height < 2 ^ 31)

-- a row is no longer than all together
row_short : (rows : List (List ℕ)) (v : ℕ) → length (row_of rows v) ≤ sum_by length rows
row_short rows v = elim (cases_lt v (length rows)) [
  | inl below ↦ get_or-le-sum_by length rows v [] below
  | inr past ↦ rw (get_or_past rows v [] past) (omega arith)
]

-- so no stack is too high
heights_fit : (origin : Origin) (v : ℕ) → AreShort origin → height_from origin v < 2 ^ 31
heights_fit (Given rows) v short =
    let parts = and_parts (nat_le (length rows) (2 ^ 22)) (nat_le (sum_by length rows) (2 ^ 20)) short in
    let all = leb-true (sum_by length rows) (2 ^ 20) parts.1 in
    let one = row_short rows v in
    omega (arith, all, one)
heights_fit (Keyed key sample height) v short = short.1

-- and each has an entry
entries_there : (origin : Origin) (weights : List (List ℕ)) (v : ℕ) → AreShort origin → IsSound origin weights
    → v < length weights → 0 < height_from origin v
entries_there (Given rows) weights v short sound below =
    let count = sound.rows.count in sound.rows.entries v (omega (arith, count, below))
entries_there (Keyed key sample height) weights v short sound below = short.0

-- so they make a table
table_is : (origin : Origin) (weights : List (List ℕ)) → AreShort origin → IsSound origin weights
    → length weights < 2 ^ 31 → IsTable (record { origin = origin; weights = weights })
table_is origin weights short sound few =
    record {
      count = few;
      heights = λ v. heights_fit origin v short;
      entries = λ v below. entries_there origin weights v short sound below;
    }

-- ---- events

-- a list that rises from one number on, below another, is no longer than they are apart
rising_between : {X : Type 0} (key : X → ℕ) (xs : List X) (low high : ℕ) → low ≤ high
    → IsStrictlyIncreasing (map key xs) → ((x : X) → Contains xs x → (low ≤ key x) × (key x < high))
    → low + length xs ≤ high
rising_between key [] low high fits rising within = omega (arith, fits)
rising_between key (x ∷ xs) low high fits rising within =
    let first = within x (head_member x xs) in
    let from = first.0 in
    let below = first.1 in
    let rest = rising_between key xs (suc (key x)) high (omega (arith, below)) (rising_tail key x xs rising)
    (λ y has.
    let less = below_members key x xs y rising has in (omega (arith, less), (within y (tail_member x xs y has)).1)) in
    omega (arith, from, rest)

-- rows with rising numbers are as few
rows_few : (rows : List (ℕ × Cube)) (high : ℕ) → IsStrictlyIncreasing (map (λ r. r.0) rows)
    → ((r : ℕ × Cube) → Contains rows r → r.0 < high) → length rows ≤ high
rows_few rows high rising below =
    let few = rising_between (λ (r : ℕ × Cube). r.0) rows 0 high (omega arith) rising
    (λ r has. (omega arith, below r has)) in
    omega (arith, few)

-- the number of an event of a formula is that of a clause
clause_below : (f : Cnf) (rows : List (ℕ × Cube)) → AreEventsOf f.clauses rows → (r : ℕ × Cube) → Contains rows r
    → r.0 < length f.clauses + 1
clause_below f rows are r has =
    let (k, clause, number, at, falsifies) = ((are.exact r.0 r.1).0 has).0 in
    let within = slice_get_within f.clauses k clause at in
    omega (arith, number, within)

-- ---- what is made

-- it is an instance, whose events have numbers of 32 bits
abbrev pub IsBounded : Instance → Type 0
IsBounded i = IsInstance i × NumbersFit i.family

-- a subject of few variables and units, whose events have such numbers
record IsSmall (s : Subject) : Type 0 where
  count : length s.weights < 2 ^ 31
  units : units_of s.family < 2 ^ 31
  numbers : NumbersFit s.family

-- so it is of the events of a formula
assignments_small : (text : List ℕ) (f : Cnf) (events : List (ℕ × Cube)) → AnswersCnf text (Ok f)
    → AreEventsOf f.clauses events → IsSmall (assignments f events)
assignments_small text f events spelled are =
    let is = cnf.sound text spelled.0 in
    let variables : f.variables ≤ 2 ^ 22 = subst (λ (g : Cnf). g.variables ≤ 2 ^ 22) (sym spelled.1) is.variables_fit in
    let clauses : length f.clauses ≤ 2 ^ 22 = subst (λ (g : Cnf). length g.clauses ≤ 2 ^ 22) (sym spelled.1) is.clauses_fit in
    let count : length (pair_weights f.variables) ≡ f.variables = length-replicate f.variables (1 ∷ 1 ∷ []) in
    let few = rows_few events (length f.clauses + 1) are.rising (clause_below f events are) in
    record {
      count = omega (arith, count, variables);
      units = omega (arith, few, clauses);
      numbers = λ k d within.
          let below = clause_below f events are (get_or events k d) (Contains-get_or events k d within) in
          omega (arith, below, clauses);
    }

-- of the sinks of a graph
orientations_small : (g : GraphOf) (events : List (ℕ × Cube)) → IsGraph g → AreSinksOf g events
    → IsSmall (orientations g events)
orientations_small g events is are =
    let vertices = is.vertices_fit in
    let edges = is.edges_fit in
    let count : length (pair_weights (length g.edges)) ≡ length g.edges = length-replicate (length g.edges) (1 ∷ 1 ∷ []) in
    let below : (r : ℕ × Cube) → Contains events r → r.0 < g.vertices + 1 =
    λ r has. let last = ((are.exact r.0 r.1).0 has).vertex.last in omega (arith, last) in
    let few = rows_few events (g.vertices + 1) are.rising below in
    record {
      count = omega (arith, count, edges);
      units = omega (arith, few, vertices);
      numbers = λ k d within.
          let low = below (get_or events k d) (Contains-get_or events k d within) in omega (arith, low, vertices);
    }

-- of the arrows to a root
arrows_small : (facts : Facts) (g : GraphOf) (root : ℕ) → IsGraph g → IsSmall (arrows_to facts g root)
arrows_small facts g root is =
    let vertices = is.vertices_fit in
    let count = count_of_weights g root in
    let heads : length (heads_of_tree g root) ≡ g.vertices - 1 =
    length-map-range_with_len (heads_at g root) 0 (g.vertices - 1) in
    record {
      count = omega (arith, count, vertices);
      units = omega (arith, heads, vertices);
      numbers = tt;
    }

-- and so of whatever is sampled
subject_small : (k : Command) (w : Wanted) (text : List ℕ) (s : Subject) → IsSubjectOf k w text s → IsSmall s
subject_small k w text s =
    holds_of text IsSmall (with_arrows text IsSmall (assignments_small text)
    (λ g events spelled are. orientations_small g events (graph_known text g spelled) are)
    (λ facts g root is root_is joined. arrows_small facts g root is)) k w s

-- so what is made of a text is bounded
pub made_bounded : (w : Wanted) (text : List ℕ) (facts : Facts) (i : Instance) → AreShort w.origin
    → IsMade w text facts i → IsBounded i
made_bounded w text facts i short made =
    let s : Subject = made.subject in
    let of : HasFamily s = subject_family w.command w text s made.are in
    let small : IsSmall s = subject_small w.command w text s made.are in
    subst IsBounded (sym made.over.instance_is) (
      record {
        family = of.family;
        fits = of.fits w.origin;
        table = table_is w.origin s.weights short made.over.sound small.count;
        units = small.units;
      },
      small.numbers,
    )

-- ---- words and certificates

-- stacks of a head
pub spec_short : (spec : StackSpec) (height : ℕ) → MayBeStacks spec → MayBeHeight spec height
    → AreShort (origin_of spec height)
spec_short (GivenStacks rows) height may tall = may.1
spec_short (KeyedStacks key) height may tall = tall

-- and of a job that words ask for
pub job_short : (words : List (List ℕ)) (job : Job) → Asks words job → AreShort (origin_for job)
job_short words job asks = by_spec job.stacks (asked_stacks words job asks)
  where
    tall : (grow : Option ℕ) → job.grow ≡ grow → (0 < unwrap_or grow job.height) × (unwrap_or grow job.height < 2 ^ 31)
    tall None is = asked_height words job asks
    tall (Some last) is = subst (λ g. IfSome g (λ n. (0 < n) × (n < 2 ^ 31))) is (asked_grow words job asks)

    by_spec : (spec : StackSpec) → MayBeStacks spec → AreShort (origin_of spec (last_height job))
    by_spec (GivenStacks rows) may = may.1
    by_spec (KeyedStacks key) may = tall job.grow refl

-- so what the command of a certificate makes of its input is within bounds
pub cert_bounded : (text : List ℕ) (cert : Certificate) → IsCertOf text cert → (facts : Facts) (i : Instance)
    → IsMade (wanted_of cert.head) cert.input facts i → IsBounded i
cert_bounded text cert is facts i made =
    let head = is.is.head in
    made_bounded (wanted_of cert.head) cert.input facts i
    (spec_short cert.head.stacks cert.head.height head.stacks head.height) made

-- and a certificate whose log is legal has it
pub legal_log : (text : List ℕ) (cert : Certificate) → IsCertOf text cert → HasLegalLog cert → HasLog cert
legal_log text cert is has =
    let bounded = cert_bounded text cert is has.facts has.instance has.made in
    record {
      facts = has.facts;
      instance = has.instance;
      certified = record { made = has.made; is = bounded.0; numbers = bounded.1 };
      log = has.log;
      read = has.read;
    }
