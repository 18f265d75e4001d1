-- The parts of a walk.
use Rattle.std.specs.Prelude.{◌≡◌, ◌≢◌, ⊤, ℕ, suc, ◌+◌, ◌-◌, ◌<◌, ◌≤◌, List, [], ◌∷◌, ◌++◌, length, map, take, slice_index}
use Rattle.std.specs.List.{range_with_len, slice_range}
use Rattle.pop_model.specs.Stacks.{value_at}
use Rattle.pop_model.specs.Popping.{Cube, variables}
use Rattle.pop_model.specs.Families.{IsEvent}
use Rattle.pop_model.specs.Families.Family.{Cycles}
use Rattle.pop_model.specs.Instances.{IsInstance}
use Rattle.pop_model.specs.Logs.{LogRecord}
use Rattle.confluence_core.specs.CycleTables.{CycleTable}
use Rattle.confluence_core.specs.Loops.{IsCubeOf}
use Rattle.claim_words.specs.Words.{word_of}
use Rattle.claim_words.specs.Maps.{Pairs, In, times, times_in, look}
use Rattle.claim_words.specs.Steps.{Drawn}
use Rattle.claim_words.specs.Conditions.{MaySettle}
use Rattle.claim_words.specs.Tells.{SoleKnows}
use Rattle.claim_words.specs.Passes.{view, spare}
use Rattle.claim_words.specs.Answers.{Answers}
use Rattle.claim_words.specs.declared.opening.Opening.{Opening}
use Rattle.claim_words.specs.declared.view.View.{View}
use Rattle.claim_words.specs.declared.pass.Pass.{Pass}
use Rattle.claim_words.specs.declared.claim.Claim.{Claim}
use Rattle.claim_words.specs.declared.claim.Claim.TheVariants.{Mine, Busy as Refused, Settled}
use Rattle.event_finders.specs.declared.tried.Tried.{Tried}
use Rattle.event_finders.specs.declared.tried.Tried.TheVariants.{Cleared, Busy, OutOfMemory}
use Rattle.event_finders.specs.declared.walking.WalkStop.{WalkStop}
use Rattle.event_finders.specs.declared.walking.WalkStop.TheVariants.{Rests, Back, Busy as Met}
use Rattle.event_finders.specs.declared.walks.Round.{Round}
use Rattle.event_finders.specs.declared.walks.Round.TheVariants.{Popped as RoundPopped, Over}
use Rattle.event_finders.specs.Gains.{Stays}
use Rattle.event_finders.specs.Trails.{Trail, stand, last_of, Goes, Stands}
use Rattle.event_finders.specs.Walks.{IsBusy, IsLoop, Closes, KeepsKnown, Traced, TracedTo, Reaches, GainsTickets}

-- the stacks and the arrows are those of the board
pub record IsTableOf (k : Opening) (t : CycleTable) : Type 0 where
  pub stacks : k.instance.value.stacks ≡ t.stacks
  pub family : k.instance.value.family ≡ Cycles t.heads
  pub instance : IsInstance k.instance.value

-- the pass has room to claim all variables that are not on the path
abbrev pub HasSpare : Pass → Trail → Type 0
HasSpare pass t = t.count ≤ spare pass + length t.path

-- The pass walks on this path along the board's arrows: the path is not empty, and there is room
-- to continue.
pub record IsWalking (k : Opening) (pass : Pass) (g : CycleTable) (t : Trail) : Type 0 where
  pub table : IsTableOf k g
  pub stands : Stands k (view pass) t
  pub spare : HasSpare pass t
  pub some : 0 < length t.path
  pub sole : SoleKnows (view pass)

-- what claims, releases and settles leave unchanged
pub record Same (d e : View) : Type 0 where
  pub stays : Stays d e
  pub mine : e.mine ≡ d.mine
  pub known : KeepsKnown d e

-- the claim of v added it to the path, or left the path unchanged; a pass that is the only one
-- never finds it busy
abbrev pub Puts : View → Trail → Trail → ℕ → Claim → Type 0
Puts e old new v (Mine c) = new ≡ record old { path = old.path ++ (v, c) ∷ [] }
Puts e old new v (Refused w) = (new ≡ old) × IsBusy w × (e.share ≢ 64)
Puts e old new v (Settled c) = (new ≡ old) × In (v, c) e.settled

-- the entry of a claim of v was added to `seen`, and the result is that of the word found
abbrev pub Enters : View → View → ℕ → Claim → Type 0
Enters d e v claim = (w : ℕ) × (e.seen ≡ d.seen ++ (word_of v, w) ∷ []) × Answers w claim

-- the indexes of the words of a path's variables
abbrev pub words_of : Pairs → List ℕ
words_of path = map word_of (variables path)

-- The path grew at its end, by claims that found their words free. `seen` gained at most one entry
-- for each variable that was added to the path.
pub record Walked (d e : View) (old new : Pairs) : Type 0 where
  pub added : Pairs
  pub seen : e.seen ≡ d.seen ++ added
  pub on : (i : ℕ) → times i added + times_in i (words_of old) ≤ times_in i (words_of new)
  pub begins : stand new 0 ≡ stand old 0
  pub traced : (n : ℕ) (from : View) → Traced n from d old → Traced n from e new

-- `seen` gained at most one entry for each word, and none for those of the path
pub record SeesLast (d e : View) (path : Pairs) : Type 0 where
  pub added : Pairs
  pub seen : e.seen ≡ d.seen ++ added
  pub once : (i : ℕ) → times i added + times_in i (words_of path) ≤ 1

-- why a walk stops
abbrev pub Stops : Opening → View → Pairs → WalkStop → Type 0
Stops k e path Rests = MaySettle k e (last_of path).0
Stops k e path (Back place) =
    (place < length path) × Goes k (last_of path) (slice_index (variables path) place)
Stops k e path (Met v w) = Goes k (last_of path) v × IsBusy w × (e.share ≢ 64)

-- the path is longer by one
pub record Grows (d e : View) (old new : Trail) : Type 0 where
  pub longer : length new.path ≡ suc (length old.path)
  pub walked : Walked d e old.path new.path

-- a claim that found a busy variable was seen, and nothing else
abbrev pub Finds : View → View → WalkStop → Type 0
Finds d e (Met v w) = e.seen ≡ d.seen ++ (word_of v, w) ∷ []
Finds d e stop = ⊤

-- the walk stopped without a step
pub record Rest (k : Opening) (d e : View) (old new : Trail) (stop : WalkStop) : Type 0 where
  pub same : new ≡ old
  pub why : Stops k e new.path stop
  pub seen : SeesLast d e old.path
  pub found : Finds d e stop

-- the walk continued and stopped
pub record Followed (k : Opening) (e : View) (old new : Trail) (stop : WalkStop) : Type 0 where
  pub begins : stand new.path 0 ≡ stand old.path 0
  pub why : Stops k e new.path stop

-- how the path was claimed, if a walk stops
abbrev pub Stopped : ℕ → View → View → Pairs → WalkStop → Type 0
Stopped n d e path (Met v w) = TracedTo n d e path v w
Stopped n d e path stop = Traced n d e path

-- for each variable its cursor on the path
abbrev pub laid : Trail → List ℕ
laid t = map (λ v. look v t.path) (range_with_len 0 t.count)

-- a variable and the slot at its cursor
abbrev pub slot_pair : CycleTable → ℕ × ℕ → ℕ × ℕ
slot_pair t e = (e.0, value_at t.stacks e.0 e.1)

-- A board's arrows lead along a path that some pass holds, and from its end back to the place.
pub record LeadsBack (g : CycleTable) (t : Trail) (place : ℕ) : Type 0 where
  pub board : Opening
  pub holder : View
  pub table : IsTableOf board g
  pub stands : Stands board holder t
  pub within : place < length t.path
  pub closes : Goes board (last_of t.path) (slice_index (variables t.path) place)

-- the cube has exactly the variables of the path from the place on, each with its slot
abbrev pub IsLoopCube : CycleTable → Trail → ℕ → Cube → Type 0
IsLoopCube g t place cube =
    IsCubeOf g (laid t) (slice_range (variables t.path) place (length t.path - 1 + 1)) cube

-- The cycle from a place of the path on was popped. The path before that place is unchanged.
pub record PopsLoop (k : Opening) (d e : View) (path : Pairs) (place t : ℕ) : Type 0 where
  pub stays : Stays d e
  pub seen : e.seen ≡ d.seen
  pub known : e.settled ≡ d.settled
  pub popped : LogRecord
  pub mine : e.mine ≡ d.mine ++ (t, popped) ∷ []
  pub event : IsEvent k.instance.value.family popped.event
  pub loop : IsLoop path place popped
  pub newer : (q : Drawn) → In q d.mine → q.0 < t
  pub same : variables e.held ≡ variables d.held
  pub left : take (place + 1) e.held
      ≡ take place path ++ ((stand path place).0, (stand path place).1 + 1) ∷ []

-- what the result of a walk from v says, if it ends the walk
abbrev pub Says : View → ℕ → Tried → Type 0
Says e v (Cleared u c) = (u ≡ v) × In (u, c) e.settled × SoleKnows e
Says e v (Busy u w) = IsBusy w × (e.share ≢ 64) × SoleKnows e
Says e v OutOfMemory = ⊤
Says e v answer = ⊥

-- Either a cycle that the path closed was popped, and the walk continues from the variable that
-- closed it. Or the walk is over, and all variables were released or settled.
abbrev pub Rounds : Opening → View → View → Trail → Trail → Round → Type 0
Rounds k d e old new (RoundPopped t) = (r : LogRecord) × GainsTickets k d e ((t, r) ∷ [])
    × Stands k e new × (0 < length new.path)
    × (slice_index (variables new.path) 0 ≡ slice_index (variables old.path) 0) × SoleKnows e
    × ((n : ℕ) (first : View) → Traced n first d old.path
    → Closes k n first e (slice_index (variables old.path) 0) r)
Rounds k d e old new (Over answer) = GainsTickets k d e [] × (e.held ≡ []) × (new.path ≡ [])
    × (new.count ≡ old.count) × Says e (slice_index (variables old.path) 0) answer

-- the claimed variable that a walk reaches at its end
abbrev pub EndsAt : Opening → ℕ → View → View → ℕ → Tried → Type 0
EndsAt k n d e start (Busy v w) = Reaches k n d e start v w
EndsAt k n d e start answer = ⊤

-- how the path was claimed after a cycle was popped; one more pop is counted for each variable
abbrev pub RoundsOn : Opening → ℕ → View → View → ℕ → Pairs → Round → Type 0
RoundsOn k n d e start path (RoundPopped t) = Traced (n + 1) d e path
RoundsOn k n d e start path (Over answer) = EndsAt k n d e start answer
