-- One stage after others. An event that is poppable when the stacks are raised occurred at the end before, so it is in
-- the stuck list there. The log of all stages is legal at each greater height, since no entry depends on the height.
use Rattle.std.proofs.Common.{◌≡◌, ℕ, ◌-◌, ◌<◌, ◌≤◌, Bool, List, [], ◌∷◌, length, map, inl, inr, refl, sym, ap, subst, ◌∙◌, arith}
use Rattle.pop_model.specs.Stacks.{variables_of, height_of, stacks_raised, IsKeyed}
use Rattle.pop_model.specs.Families.{Event}
use Rattle.pop_model.specs.Instances.{Instance, IsInstance, instance_raised}
use Rattle.pop_model.specs.Runs.{IsStuckList, start_of}
use Rattle.pop_model.proofs.TallerStacks.{raised_extends}
use Rattle.confluence_core.specs.declared.reached.Reached.{Reached}
use Rattle.confluence_core.specs.declared.run.Run.{Run}
use Rattle.confluence_core.specs.Runs.{IsRunOf, ended}
use Rattle.confluence_core.specs.Stretches.{GoesOn, HasEnded, IsReached, IsTold, before_pops}
use Rattle.confluence_core.proofs.EventVariables.{event_below, event_cube}
use Rattle.confluence_core.proofs.Reaching.{goes_then, leads_for, reached_raised, told_run}
use Rattle.pop_workers.specs.Stages.{height, at_next_height, AreMade, AreStages, HasGrown, IsLast, IsToCome, StagesLead}
use Rattle.pop_workers.proofs.RaisedInstances.{one_height, raised_height, raised_keyed, raised_same, raised_twice, told_raised}

-- where an event is stuck there is a variable
pub some_variable : (i : Instance) (c : List ℕ) (stuck : List Event) → IsInstance i → IsStuckList i c stuck
    → 0 < length stuck → 0 < variables_of i.stacks
some_variable i c [] instance list some = absurd (omega (arith, some))
some_variable i c (e ∷ stuck) instance list some =
    let is = ((list.exact e).0 (0, omega arith, refl)).0 in
    let cube = event_cube i.family e instance.family is in
    let below = event_below i e instance.fits is 0 (0, 0) cube.some in
    omega (arith, below)

-- a run that has come to the end of a stage has come so far at a greater height, where what is stuck is suspected
reached_on : (j k : Instance) (h : ℕ) (start : List ℕ) (keeps : Bool) (before : Reached) (old : List Event)
    (suspects : List ℕ) → ((v : ℕ) → height_of j.stacks v ≤ h) → IsInstance j → IsReached j start keeps before
    → HasEnded j before old → k ≡ instance_raised h j → suspects ≡ map (λ e. e.unit) old
    → IsReached k start keeps (record before { suspects = suspects })
reached_on j k h start keeps before old suspects lower instance reached end is are =
    subst (λ us. IsReached k start keeps (record before { suspects = us })) (sym are)
    (subst (λ (x : Instance). IsReached x start keeps (record before { suspects = map (λ e. e.unit) old })) (sym is)
    (reached_raised j (stacks_raised h j.stacks) (raised_extends j.stacks.origin j.stacks.weights h lower) start keeps
    before old instance reached end.stuck_list))

-- stages begin with the instance as it is, at its own height
pub first_grown : (last : ℕ) (i : Instance) (keeps : Bool) → IsKeyed i.stacks.origin
    → ((v : ℕ) → height_of i.stacks v ≤ last) → HasGrown last i keeps i
first_grown last i keeps keyed less =
    record { begun = inl refl; raised = sym (raised_same i keyed); low = less 0 }

module _ (last : ℕ) (i : Instance) (keeps : Bool) (keyed : IsKeyed i.stacks.origin) (j : Instance)
    (grown : HasGrown last i keeps j) where
  -- the stacks are keyed still
  pub still_keyed : IsKeyed j.stacks.origin
  still_keyed = subst (λ (x : Instance). IsKeyed x.stacks.origin) (sym grown.raised)
      (raised_keyed i.stacks.origin (height j) keyed)

  -- they have one height
  pub lower : (h : ℕ) → height j ≤ h → (v : ℕ) → height_of j.stacks v ≤ h
  lower h less v = let same = one_height j.stacks.origin v 0 still_keyed in omega (arith, same, less)

  module _ (before : Reached) (old : List Event) (made : AreMade last i keeps j before old) where
    module _ (h : ℕ) (k : Instance) (to_come : IsToCome last j old h) (is : k ≡ instance_raised h j) where
      -- the height of the next one is that to which it was raised
      high : height k ≡ h
      high = ap height is ∙ raised_height j.stacks.origin h 0 still_keyed

      -- which is nearer to the last
      pub nearer : last - height k < last - height j
      nearer = let most = to_come.is in omega (arith, high, to_come.higher, most)

      -- the next one stands where the instance is raised to
      at_next : k ≡ at_next_height last j
      at_next = is ∙ ap (λ n. instance_raised n j) to_come.is

      -- the next stage has begun
      pub next_grown : HasGrown last i keeps k
      next_grown = record {
        begun = inr (j, before, old, made.staged, to_come.goes_on, at_next);
        raised = is ∙ ap (instance_raised h) grown.raised ∙ raised_twice i h (height j)
            ∙ ap (λ n. instance_raised n i) (sym high);
        low = let most = to_come.is in omega (arith, high, most);
      }

      module _ (us : List ℕ) (instance : IsInstance j) (are : us ≡ map (λ (e : Event). e.unit) old) where
        -- there the run has come so far, where what was stuck is suspected
        pub next_opens : IsReached k (start_of i) keeps (record before { suspects = us })
        next_opens =
            reached_on j k h (start_of i) keeps before old us (lower h (omega (arith, to_come.higher))) instance
            made.reached made.end is are

        -- and the next stage was made, once it goes on to its end
        pub next_made : (left : Reached) (stuck : List Event) → GoesOn k (record before { suspects = us }) left
            → HasEnded k left stuck → AreMade last i keeps k left stuck
        next_made left stuck on end =
            let leads = leads_for k (record before { suspects = us }) left before.suspects left.suspects on.leads in
            let goes : GoesOn k before left = record { leads = leads; can = on.can } in
            record {
              staged = subst (λ (x : Instance). StagesLead last i keeps x left stuck) (sym at_next)
                  (StagesLead.more j before left old stuck made.staged to_come.goes_on
                  (subst (λ (x : Instance). GoesOn x before left) at_next goes)
                  (subst (λ (x : Instance). HasEnded x left stuck) at_next end));
              reached = goes_then k (before_pops (start_of i) keeps) (record before { suspects = us }) left next_opens on;
              end = end;
            }

    -- where no stage follows, what is told is a run at the last height
    pub run_at_last : (run : Run) → IsInstance j → IsTold j before run → IsLast last j old
        → IsRunOf (instance_raised last i) (start_of i) keeps run
    run_at_last run instance told is_last =
        let top : Instance = instance_raised last j in
        let suspects = map (λ (e : Event). e.unit) old in
        subst (λ (x : Instance). IsRunOf x (start_of i) keeps run)
        (ap (instance_raised last) grown.raised ∙ raised_twice i last (height j)) (elim is_last [
          | inl none ↦
              told_run top (start_of i) keeps (record before { suspects = suspects }) run
              (reached_on j top last (start_of i) keeps before old suspects (lower last grown.low) instance made.reached
              made.end refl refl) (ap (map (λ (e : Event). e.unit)) none)
              (told_raised j.stacks.weights j.family j.stacks.origin last before suspects run still_keyed told)
          | inr same ↦
              subst (λ (x : Instance). IsRunOf x (start_of i) keeps run)
              (sym (raised_same j still_keyed) ∙ ap (λ n. instance_raised n j) same)
              (told_run j (start_of i) keeps before run made.reached made.end.none told)
        ])

    -- and of the stages
    pub stages_told : (run : Run) → IsTold j before run → run.end.stuck ≡ old → AreStages last i keeps j run
    stages_told run told same =
        let at : before ≡ ended run =
        ap (λ us. record before { suspects = us }) made.end.none ∙ sym (ap ended told.are) in
        subst (StagesLead last i keeps j (ended run)) (sym same)
        (subst (λ (r : Reached). StagesLead last i keeps j r old) at made.staged)
