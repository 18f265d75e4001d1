-- Why there is no run: how each error is printed, and the error for each cause.
use Rattle.std.specs.Prelude.{◌≡◌, ◌⊎◌, ℕ, ◌+◌, ◌<◌, ◌^◌, List, [], ◌∷◌, ◌++◌, map, decimal, codes, Result, Ok, Err, IfOk, IfErr, ⊤}
use Rattle.pop_model.specs.Text.{line, spaced}
use Rattle.pop_edge.specs.declared.refusal.ReadRefusal.{ReadRefusal}
use Rattle.pop_edge.specs.declared.refusal.ReadRefusal.TheVariants.{Malformed as MalformedLine, Count as WrongCount, EmptyClause as NoLiteral, Limit as PassedLimit, ReadFault as ReadingFailed, OutOfMemory as ReadingMemory}
use Rattle.pop_words.specs.declared.fault.WordFault.{WordFault}
use Rattle.pop_words.specs.declared.fault.WordFault.TheVariants.{Usage as BadWord, OutOfMemory as WordMemory}
use Rattle.pop_log.specs.declared.log_refusal.LogRefusal.{LogRefusal}
use Rattle.pop_log.specs.declared.log_refusal.LogRefusal.TheVariants.{Limit as LongLog, Malformed as MalformedLog, NotLegal as IllegalRecord, Unlayered as UnlayeredRecord, OutOfMemory as LogMemory}
use Rattle.run_cert.specs.declared.cert_refusal.CertRefusal.{CertRefusal}
use Rattle.run_cert.specs.declared.cert_refusal.CertRefusal.TheVariants.{Malformed as MalformedCert, OutOfMemory as CertMemory}
use Rattle.sink_popping.specs.declared.sink_fault.SinkFault.{SinkFault}
use Rattle.sink_popping.specs.declared.sink_fault.SinkFault.TheVariants.{Isolated as IsolatedVertex, OutOfMemory as SinkMemory}
use Rattle.job_subjects.specs.declared.answer.Answer.{Answer}
use Rattle.job_subjects.specs.declared.stop.Stop.{Stop}
use Rattle.job_subjects.specs.declared.stop.Stop.TheVariants.{ReadFault, OutOfMemory}
use Rattle.job_subjects.specs.declared.refusal.Refusal.{Refusal}
use Rattle.job_subjects.specs.declared.refusal.Refusal.TheVariants.{Usage, Malformed, Count, EmptyClause, Limit, Isolated, NoRoot, CutOff, TooMany, RowCount, EmptyRow, ValueTooLarge, WeightSum, Clashes, NotLegal, Stopped}

-- a line that begins with `s`, followed by a keyword and numbers
abbrev pub s_line : List ℕ → List ℕ → List ℕ
s_line word numbers = line (codes "s " ++ word ++ spaced (map decimal numbers))

-- how each error is printed: its status and its line
abbrev pub told_as : Refusal → ℕ × List ℕ
told_as (Usage place) = (2, s_line (codes "USAGE") (place ∷ []))
told_as (Malformed l code) = (3, s_line (codes "MALFORMED") (l ∷ code ∷ []))
told_as (Count declared found) = (3, s_line (codes "COUNT") (declared ∷ found ∷ []))
told_as (EmptyClause number) = (6, s_line (codes "EMPTY") (number ∷ []))
told_as (Limit kind l) = (4, s_line (codes "LIMIT") (kind ∷ l ∷ []))
told_as (Isolated w) = (6, s_line (codes "ISOLATED") (w ∷ []))
told_as (NoRoot root) = (6, s_line (codes "ROOT") (root ∷ []))
told_as (CutOff w) = (6, s_line (codes "CUTOFF") (w ∷ []))
told_as (TooMany samples) = (4, s_line (codes "LIMIT") (9 ∷ samples ∷ []))
told_as (RowCount given wanted) = (3, s_line (codes "ROWS") (given ∷ wanted ∷ []))
told_as (EmptyRow name) = (3, s_line (codes "EMPTYROW") (name ∷ []))
told_as (ValueTooLarge name k) = (3, s_line (codes "VALUE") (name ∷ k ∷ []))
told_as (WeightSum name) = (4, s_line (codes "LIMIT") (6 ∷ name ∷ []))
told_as (Clashes number other) = (5, s_line (codes "CLASH") (number ∷ other ∷ []))
told_as (NotLegal place) = (11, s_line (codes "NOTLEGAL") (place ∷ []))
told_as (Stopped ReadFault) = (7, s_line (codes "READFAULT") [])
told_as (Stopped OutOfMemory) = (9, s_line (codes "MEMORY") [])

-- the status of an error
abbrev pub refusal_status : Refusal → ℕ
refusal_status refusal = (told_as refusal).0

-- the line of an error
abbrev pub refusal_line : Refusal → List ℕ
refusal_line refusal = (told_as refusal).1

-- the result prints the error, unless it stops the call or memory runs out
pub record IsTold (refusal : Refusal) (result : Result Answer Stop) : Type 0 where
  pub status : IfOk result (λ a. a.status ≡ refusal_status refusal)
  pub line : IfOk result (λ a. a.text.items ≡ refusal_line refusal)
  pub stopped : IfErr result (λ stop. (refusal ≡ Stopped stop) ⊎ (stop ≡ OutOfMemory))
  pub none : (stop : Stop) → refusal ≡ Stopped stop → result ≡ Err stop

-- memory ran out, or the error is one of these
abbrev pub IsRefusal : (Refusal → Type 0) → Refusal → Type 0
IsRefusal Refuses refusal = (refusal ≡ Stopped OutOfMemory) ⊎ Refuses refusal

-- the error for invalid arguments
abbrev pub unworded : WordFault → Refusal
unworded (BadWord place) = Usage place
unworded WordMemory = Stopped OutOfMemory

-- the error for an invalid input; a fault of its source and a lack of memory are not errors of the
-- input
abbrev pub unread : ReadRefusal → Refusal
unread (MalformedLine l code) = Malformed l code
unread (WrongCount declared found) = Count declared found
unread (NoLiteral number) = EmptyClause number
unread (PassedLimit kind l) = Limit kind l
unread ReadingFailed = Stopped ReadFault
unread ReadingMemory = Stopped OutOfMemory

-- the error for a graph that cannot be oriented
abbrev pub unoriented : SinkFault → Refusal
unoriented (IsolatedVertex w) = Isolated w
unoriented SinkMemory = Stopped OutOfMemory

-- the error for bytes that are not a certificate
abbrev pub uncertified : CertRefusal → Refusal
uncertified (MalformedCert l code) = Malformed l code
uncertified CertMemory = Stopped OutOfMemory

-- the error for the text of a log; its lines and records count from 1
abbrev pub unlogged : LogRefusal → Refusal
unlogged LongLog = Limit 7 1
unlogged (MalformedLog l) = Malformed l 31
unlogged (IllegalRecord k) = NotLegal (k + 1)
unlogged (UnlayeredRecord k) = Malformed (k + 2) 32
unlogged LogMemory = Stopped OutOfMemory

-- the numbers of the record and of its line have 64 bits
abbrev pub IsEarlyRecord : LogRefusal → Type 0
IsEarlyRecord (IllegalRecord k) = k + 2 < 2 ^ 64
IsEarlyRecord (UnlayeredRecord k) = k + 2 < 2 ^ 64
IsEarlyRecord refusal = ⊤

-- the error is not one of the arguments
abbrev pub IsPastWords : Refusal → Type 0
IsPastWords (Usage place) = ⊥
IsPastWords refusal = ⊤

-- the call was not stopped by a fault of its source or a lack of memory
abbrev pub IsJudged : {T : Type 0} → Result T Refusal → Type 0
IsJudged (Ok a) = ⊤
IsJudged (Err (Stopped stop)) = ⊥
IsJudged (Err refusal) = ⊤
