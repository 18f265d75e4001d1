-- Options that were chosen, one after another, and their words. Names tell options apart, so the words that a command
-- line begins with determine the options that it begins with.
use Rattle.std.proofs.Common.{inl, inr, ◌≡◌, ℕ, ◌*◌, List, [], ◌∷◌, ◌++◌, length, refl, sym, ap, subst, arith, append_assoc, IsSome, ap₂, Contains}
use Rattle.std.proofs.lemmas.List.{append-nil}
use Rattle.std.proofs.lemmas.List.Elements.{Contains-append_cases}
use Rattle.pop_model.proofs.Rising.{only_member}
use Rattle.pop_words.specs.declared.command.Command.{Command}
use Rattle.pop_words.specs.declared.job.Job.{Job}
use Rattle.pop_words.specs.Options.{NamedOption, options, value_of}
use Rattle.pop_words.specs.CommandLines.{Choice, options_of, words_of, AreOptions, MayFollow, set_option, job_from}
use Rattle.pop_words.proofs.TableFacts.{same_option}

-- the words of options, one list behind another
pub words-append : (xs ys : List Choice) → words_of (xs ++ ys) ≡ words_of xs ++ words_of ys
words-append [] ys = refl
words-append (x ∷ xs) ys = ap (λ l. x.0.name ∷ x.1 ∷ l) (words-append xs ys)

-- the options that were chosen, one list behind another
pub options-append : (xs ys : List Choice) → options_of (xs ++ ys) ≡ options_of xs ++ options_of ys
options-append [] ys = refl
options-append (x ∷ xs) ys = ap (λ l. x.0 ∷ l) (options-append xs ys)

-- the job with options set, one list after another
pub job-append : (job : Job) (xs ys : List Choice) → job_from job (xs ++ ys) ≡ job_from (job_from job xs) ys
job-append job [] ys = refl
job-append job (x ∷ xs) ys = job-append (set_option job x) xs ys

-- each option has two words
pub length-words_of : (xs : List Choice) → length (words_of xs) ≡ 2 * length xs
length-words_of [] = refl
length-words_of (x ∷ xs) = omega (arith, length-words_of xs)

-- options behind options
pub options_append : (c : Command) (before : List NamedOption) (xs ys : List Choice) → AreOptions c before xs
    → AreOptions c (before ++ options_of xs) ys → AreOptions c before (xs ++ ys)
options_append c before [] ys front back = subst (λ l. AreOptions c l ys) (append-nil before) back
options_append c before (x ∷ xs) ys front back =
    let behind = subst (λ l. AreOptions c l ys) (sym (append_assoc before (x.0 ∷ []) (options_of xs))) back in
    (front.0, front.1, options_append c (before ++ x.0 ∷ []) xs ys front.2 behind)

-- one option more
pub options_more : (c : Command) (chosen : List Choice) (o : NamedOption) (word : List ℕ) → AreOptions c [] chosen
    → MayFollow c (options_of chosen) o → IsSome (value_of o.field word) → AreOptions c [] (chosen ++ (o, word) ∷ [])
options_more c chosen o word options follows value = options_append c [] chosen ((o, word) ∷ []) options
    (follows, value, tt)

-- the last part of options
pub options_behind : (c : Command) (before : List NamedOption) (xs ys : List Choice) → AreOptions c before (xs ++ ys)
    → AreOptions c (before ++ options_of xs) ys
options_behind c before [] ys all = subst (λ l. AreOptions c l ys) (sym (append-nil before)) all
options_behind c before (x ∷ xs) ys all =
    subst (λ l. AreOptions c l ys) (append_assoc before (x.0 ∷ []) (options_of xs))
    (options_behind c (before ++ x.0 ∷ []) xs ys all.2)

-- options that were chosen are in the table
pub are_listed : (c : Command) (before : List NamedOption) (xs : List Choice) → AreOptions c before xs
    → (o : NamedOption) → Contains (options_of xs) o → Contains options o
are_listed c before [] are o (k, within, at) = absurd (omega arith)
are_listed c before (x ∷ xs) are o among = elim (Contains-append_cases (x.0 ∷ []) (options_of xs) o among) [
  | inl first ↦ subst (Contains options) (only_member x.0 o first) are.0.listed
  | inr later ↦ are_listed c (before ++ x.0 ∷ []) xs are.2 o later
]

-- the words of options in front of others are those of the first of these
pub record Splits (xs zs : List Choice) (tail : List (List ℕ)) : Type 0 where
  pub more : List Choice
  pub whole : zs ≡ xs ++ more
  pub rest : tail ≡ words_of more

-- words that begin with those of some options are those of more options
pub words_split : (c d : Command) (before behind : List NamedOption) (xs zs : List Choice) (tail : List (List ℕ))
    → AreOptions c before xs → AreOptions d behind zs → words_of xs ++ tail ≡ words_of zs → Splits xs zs tail
words_split c d before behind [] zs tail left right same = record { more = zs; whole = refl; rest = same }
words_split c d before behind (x ∷ xs) [] tail left right same = absurd (cc)
words_split c d before behind (x ∷ xs) (z ∷ zs) tail left right same =
    let name : x.0.name ≡ z.0.name = cc in
    let value : x.1 ≡ z.1 = cc in
    let rest : words_of xs ++ tail ≡ words_of zs = cc in
    let split = words_split c d (before ++ x.0 ∷ []) (behind ++ z.0 ∷ []) xs zs tail left.2 right.2 rest in
    let option : x.0 ≡ z.0 = same_option x.0 z.0 left.0.listed right.0.listed name in
    let first : z ≡ x = pair (sym option) (sym value) in
    let whole : z ∷ zs ≡ x ∷ (xs ++ split.more) = cc (first, split.whole) in
    record { more = split.more; whole = whole; rest = split.rest }
  where
    choice : NamedOption → List ℕ → Choice
    choice o w = (o, w)

    pair : {p q : Choice} → p.0 ≡ q.0 → p.1 ≡ q.1 → p ≡ q
    pair a b = ap₂ choice a b
