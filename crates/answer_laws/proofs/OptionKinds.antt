-- What options set. If some fields of a job have their defaults, and names identify the options that set these, the
-- job is that of the other options. So arguments that differ only in such options have the same job, except for these
-- fields. `resample` prints its log by default: no option of it sets whether a log is printed. Arguments that give
-- rows have a command that reads no certificate: no other allows stacks.
use Rattle.std.proofs.Common.{inl, inr, ◌≡◌, ℕ, Bool, true, false, not, cond, List, [], ◌∷◌, filter, Option, None, Some, refl, sym, ap, ap₂, ◌∙◌, ◌-◌, ◌^◌}
use Rattle.std.specs.Prelude.{unwrap_or, option_map}
use Rattle.std.specs.List.{list_all}
use Rattle.std.proofs.lemmas.Bool.{cases_Bool, false≢true}
use Rattle.pop_stacks.specs.declared.stack_spec.StackSpec.TheVariants.{Key as KeyedStacks, Given as GivenStacks}
use Rattle.pop_words.specs.declared.board_kind.BoardKind.TheVariants.{Words as OnWords}
use Rattle.pop_words.specs.declared.command.Command.{Command}
use Rattle.pop_words.specs.declared.field.Field.{Field}
use Rattle.pop_words.specs.declared.field.Field.TheVariants.{Stacks, Key, Height, Grow, Count, Pops, Workers, Board, Log, Root, Witness, Reports, Size}
use Rattle.pop_words.specs.declared.job.Job.{Job}
use Rattle.pop_words.specs.Values.{no_reports, number_between, rows_in, key_in, board_in, switch_in, pair_in, reports_in}
use Rattle.pop_words.specs.Options.{NamedOption, options, value_of, default_job, command_row}
use Rattle.pop_words.specs.CommandLines.{Choice, AreOptions, Asks, set_option, job_from}
use Rattle.pop_words.proofs.ListTests.{all_at}
use Rattle.pop_words.specs.declared.command.Command.TheVariants.{Resample, Replay, Resume}
use Rattle.top_call.specs.Answers.{IsOfLine}
use Rattle.top_call.proofs.ApartWords.{AreKinds, settled}
use Rattle.top_call.proofs.ByCommand.{reads_no_cert}
use Rattle.answer_laws.proofs.ToldSubjects.{is_quiet}

-- ---- options that are left out

-- the job with these fields dropped; two options set the stacks
abbrev pub dropped : (Field → Bool) → Job → Job
dropped is job = record job {
  stacks = cond (is Stacks) (KeyedStacks []) job.stacks;
  height = cond (is Height) 1 job.height;
  grow = cond (is Grow) None job.grow;
  count = cond (is Count) None job.count;
  pops = cond (is Pops) None job.pops;
  workers = cond (is Workers) 1 job.workers;
  board = cond (is Board) OnWords job.board;
  root = cond (is Root) 1 job.root;
  log = cond (is Log) false job.log;
  witness = cond (is Witness) None job.witness;
  reports = cond (is Reports) no_reports job.reports;
  size = cond (is Size) 0 job.size;
}

-- what is set is dropped with its field, or goes on
pub record Sets (is : Field → Bool) (field : Field) (set : Job → Job) : Type 0 where
  pub own : is field ≡ true → (job : Job) → dropped is (set job) ≡ dropped is job
  pub other : is field ≡ false → (job : Job) → dropped is (set job) ≡ set (dropped is job)

-- so it is of a value that is read, where it is of each
value_sets : {X : Type 0} (is : Field → Bool) (field : Field) (put : X → Job → Job) (read : Option X)
    → ((x : X) → is field ≡ true → (job : Job) → dropped is (put x job) ≡ dropped is job)
    → ((x : X) → is field ≡ false → (job : Job) → dropped is (put x job) ≡ put x (dropped is job))
    → Sets is field (unwrap_or (option_map put read) (λ j. j))
value_sets is field put None own other = record { own = λ same job. refl; other = λ same job. refl }
value_sets is field put (Some x) own other = record { own = own x; other = other x }

-- and so of each option
pub option_sets : (is : Field → Bool) → is Stacks ≡ is Key → (field : Field) (word : List ℕ)
    → Sets is field (unwrap_or (value_of field word) (λ j. j))
option_sets is both Key word =
    value_sets is Key (λ key j. record j { stacks = KeyedStacks key }) (key_in word)
    (λ x e job. rw (both ∙ e) refl) (λ x e job. rw (both ∙ e) refl)
option_sets is both Stacks word =
    value_sets is Stacks (λ rows j. record j { stacks = GivenStacks rows }) (rows_in word)
    (λ x e job. rw e refl) (λ x e job. rw e refl)
option_sets is both Height word =
    value_sets is Height (λ n j. record j { height = n }) (number_between 1 (2 ^ 31 - 1) word)
    (λ x e job. rw e refl) (λ x e job. rw e refl)
option_sets is both Grow word =
    value_sets is Grow (λ n j. record j { grow = Some n }) (number_between 1 (2 ^ 31 - 1) word)
    (λ x e job. rw e refl) (λ x e job. rw e refl)
option_sets is both Count word =
    value_sets is Count (λ n j. record j { count = Some n }) (number_between 1 65536 word)
    (λ x e job. rw e refl) (λ x e job. rw e refl)
option_sets is both Pops word =
    value_sets is Pops (λ n j. record j { pops = Some n }) (number_between 1 (2 ^ 32 - 1) word)
    (λ x e job. rw e refl) (λ x e job. rw e refl)
option_sets is both Workers word =
    value_sets is Workers (λ n j. record j { workers = n }) (number_between 1 64 word)
    (λ x e job. rw e refl) (λ x e job. rw e refl)
option_sets is both Board word =
    value_sets is Board (λ b j. record j { board = b }) (board_in word)
    (λ x e job. rw e refl) (λ x e job. rw e refl)
option_sets is both Log word =
    value_sets is Log (λ log j. record j { log = log }) (switch_in word)
    (λ x e job. rw e refl) (λ x e job. rw e refl)
option_sets is both Root word =
    value_sets is Root (λ n j. record j { root = n }) (number_between 1 (2 ^ 32 - 1) word)
    (λ x e job. rw e refl) (λ x e job. rw e refl)
option_sets is both Witness word =
    value_sets is Witness (λ pair j. record j { witness = Some pair }) (pair_in word)
    (λ x e job. rw e refl) (λ x e job. rw e refl)
option_sets is both Reports word =
    value_sets is Reports (λ kinds j. record j { reports = kinds }) (reports_in word)
    (λ x e job. rw e refl) (λ x e job. rw e refl)
option_sets is both Size word =
    value_sets is Size (λ n j. record j { size = n }) (number_between 1 2048 word)
    (λ x e job. rw e refl) (λ x e job. rw e refl)

-- a field is one of these where its option has one of these names, and no field of another option is
abbrev pub agrees : (List ℕ → Bool) → (Field → Bool) → NamedOption → Bool
agrees tells is o = cond (tells o.name) (is o.field) (not (is o.field))

-- the options of these names set the fields that are dropped, and the others set other fields
pub record AreNamed (tells : List ℕ → Bool) (is : Field → Bool) : Type 0 where
  pub all_agree : list_all (agrees tells is) options ≡ true
  pub one_field : is Stacks ≡ is Key

-- the options without those of these names
abbrev pub without : (List ℕ → Bool) → List Choice → List Choice
without tells chosen = filter (λ (p : Choice). not (tells p.0.name)) chosen

module _ (tells : List ℕ → Bool) (is : Field → Bool) (named : AreNamed tells is) where
  -- the options without these tell the rest of the job
  parts : (command : Command) (before : List NamedOption) (job : Job) (chosen : List Choice)
      → AreOptions command before chosen → dropped is (job_from job chosen) ≡ job_from (dropped is job) (without tells chosen)
  parts command before job [] are = refl
  parts command before job (p ∷ chosen) are =
      let agree : agrees tells is p.0 ≡ true = all_at (agrees tells is) options named.all_agree p.0 are.0.listed in
      let rest : dropped is (job_from (set_option job p) chosen)
      ≡ job_from (dropped is (set_option job p)) (without tells chosen) =
      parts command _ (set_option job p) chosen are.2 in
      let sets = option_sets is named.one_field p.0.field p.1 in
      elim (cases_Bool (tells p.0.name)) [
        | inl told ↦
            let own : is p.0.field ≡ true = sym (ap (λ b. cond b (is p.0.field) (not (is p.0.field))) told) ∙ agree in
            rest ∙ ap (λ j. job_from j (without tells chosen)) (sets.own own job)
            ∙ ap (λ b. job_from (dropped is job) (cond (not b) (p ∷ without tells chosen) (without tells chosen))) (sym told)
        | inr untold ↦
            let other : is p.0.field ≡ false =
            false_of (is p.0.field) (sym (ap (λ b. cond b (is p.0.field) (not (is p.0.field))) untold) ∙ agree) in
            rest ∙ ap (λ j. job_from j (without tells chosen)) (sets.other other job)
            ∙ ap (λ b. job_from (dropped is job) (cond (not b) (p ∷ without tells chosen) (without tells chosen))) (sym untold)
      ]
    where
      false_of : (b : Bool) → not b ≡ true → b ≡ false
      false_of true same = absurd (false≢true same)
      false_of false same = refl

  -- so of the job that words ask for
  job_left : (words : List (List ℕ)) (job : Job) (asks : Asks words job)
      → dropped is job ≡ job_from (dropped is (default_job asks.command)) (without tells asks.chosen)
  job_left words job asks =
      ap (dropped is) asks.job_is ∙ parts asks.command [] (default_job asks.command) asks.chosen asks.options

  -- words of one command with the same options but these ask for jobs that are the same but for these fields
  pub same_left : (words others : List (List ℕ)) (job other : Job) (asks : Asks words job) (asks' : Asks others other)
      → asks.command ≡ asks'.command → without tells asks.chosen ≡ without tells asks'.chosen
      → dropped is job ≡ dropped is other
  same_left words others job other asks asks' command chosen =
      job_left words job asks
      ∙ ap₂ (λ (k : Command) (l : List Choice). job_from (dropped is (default_job k)) l) command chosen
      ∙ sym (job_left others other asks')

  -- and the second one has none of these fields, where its words have none of these options
  pub all_left : (words others : List (List ℕ)) (job other : Job) (asks : Asks words job) (asks' : Asks others other)
      → asks.command ≡ asks'.command → without tells asks.chosen ≡ asks'.chosen
      → dropped is (default_job asks'.command) ≡ default_job asks'.command → dropped is job ≡ other
  all_left words others job other asks asks' command chosen none =
      job_left words job asks
      ∙ ap₂ (λ (k : Command) (l : List Choice). job_from (dropped is (default_job k)) l) command chosen
      ∙ ap (λ j. job_from j asks'.chosen) none ∙ sym asks'.job_is

-- ---- whether a log is told

-- the field says it
abbrev is_of_log : Field → Bool
is_of_log Log = true
is_of_log field = false

-- only quiet commands allow `--log`
log_apart : AreKinds {B = ℕ} is_of_log (λ f. false) (λ (j : Job). j.log) (λ (j : Job). 0) is_quiet
log_apart = record {
  leaves = λ f word job other.
      ap (λ (j : Job). j.log) ((option_sets (λ g. not (is_of_log g)) refl f word).own (ap not other) job);
  others_leave = λ f word job other. refl;
  apart = λ f is. refl;
  all_fit = refl;
  all_keep_out = refl;
}

-- so what words ask for that is resampled tells its log
pub resampling_tells : (words : List (List ℕ)) (job : Job) → Asks words job → job.command ≡ Resample → job.log ≡ true
resampling_tells words job asks is =
    elim (settled {B = ℕ} is_of_log (λ f. false) (λ (j : Job). j.log) (λ (j : Job). 0) is_quiet log_apart words job asks) [
      | inl unasked ↦ unasked ∙ ap (λ k. (command_row k).log) is
      | inr (quiet, rest) ↦ absurd (false≢true (sym (ap is_quiet is) ∙ quiet))
    ]

-- ---- stacks

-- the field says what they are
abbrev pub of_stacks : Field → Bool
of_stacks Stacks = true
of_stacks Key = true
of_stacks field = false

-- the command reads no certificate
abbrev is_line : Command → Bool
is_line Replay = false
is_line Resume = false
is_line command = true

-- no command that reads a certificate allows them
stacks_of_lines : AreKinds {B = ℕ} of_stacks (λ f. false) (λ (j : Job). j.stacks) (λ (j : Job). 0) is_line
stacks_of_lines = record {
  leaves = λ f word job other.
      ap (λ (j : Job). j.stacks) ((option_sets (λ g. not (of_stacks g)) refl f word).own (ap not other) job);
  others_leave = λ f word job other. refl;
  apart = λ f is. refl;
  all_fit = refl;
  all_keep_out = refl;
}

-- where rows are given, the command is one that reads none
pub rows_line : (words : List (List ℕ)) (job : Job) → Asks words job → (rows : List (List ℕ)) → job.stacks ≡ GivenStacks rows
    → IsOfLine job.command
rows_line words job asks rows given =
    elim (settled {B = ℕ} of_stacks (λ f. false) (λ (j : Job). j.stacks) (λ (j : Job). 0) is_line stacks_of_lines words job asks) [
      | inl keyed ↦ let both = sym keyed ∙ given in absurd (cc)
      | inr (fits, same) ↦
          reads_no_cert job.command (λ same. false≢true (sym (ap is_line same) ∙ fits))
          (λ same. false≢true (sym (ap is_line same) ∙ fits))
    ]
