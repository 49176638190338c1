-- The executions that may conflict over locks, by the positions of their starts.
use Rattle.std.specs.Prelude.{◌≡◌, ◌⊎◌, ℕ, ◌<◌, ◌≤◌, true, false, List, [], get_or, length, nat_eq}
use Rattle.std.specs.Prelude.{Option, Some, None, MatchOption}
use Rattle.std.specs.List.{Contains}
use Rattle.indexmap.specs.IndexSet.{IndexSet, contains}
use Rattle.tk_ids.specs.declared.descriptors.Descriptor.{Descriptor}
use Rattle.tk_events.specs.Event.{is_before}
use Rattle.tk_record.specs.Recorded.{Recorded}
use Rattle.tk_query_locks.specs.Conflicts.{ConflictAt, IsTestWithoutChild, descriptor_at}
use Rattle.tk_query_locks.specs.Conflicts.{global_name, key_at}
use Rattle.tk_ids.specs.declared.locks.LockMode.{LockMode}
use Rattle.tk_ids.specs.declared.locks.LockMode.TheVariants.{Read, ReadWrite}
use Rattle.tk_query_locks.specs.declared.holders.Holders.{Holders}
use Rattle.tk_query_locks.specs.declared.holders.Running.{Running}
use Rattle.tk_query_locks.specs.declared.lock_numbers.NumberedLock.{NumberedLock}
use Rattle.tk_query_locks.specs.steps.LockNumbers.{AreNumbered, AreShared, numbers_bound}
use Rattle.tk_query_locks.specs.steps.Parents.{IsUnwritten}

-- the end of the execution that starts here, or 0
abbrev pub end_of : Holders → ℕ → ℕ
end_of h p = get_or h.ends.items p 0

-- the entries at two positions conflict over the lock of this name, and over none of a lesser name
pub record IsLeastAt (r : Recorded) (p q : ℕ) (name : List ℕ) : Type 0 where
  pub over : ConflictAt r name p q
  pub least : (other : List ℕ) → ConflictAt r other p q → is_before other name ≡ false

-- an execution that starts at p, and ends after q, conflicts with one that starts at q
pub record Meet (h : Holders) (p q : ℕ) : Type 0 where
  pub running : q < end_of h p
  pub starts : 0 < end_of h q
  pub name : List ℕ
  pub conflict : ConflictAt h.conflicts name p q

-- no execution that starts before q, and ends after it, conflicts with one that starts at q
abbrev pub MeetsNone : Holders → ℕ → Type 0
MeetsNone h q = (p : ℕ) → p < q → ¬ Meet h p q

-- the first execution that conflicts with one that starts at q, and ends after it
pub record IsFirstMet (h : Holders) (q p : ℕ) : Type 0 where
  pub order : p < q
  pub met : Meet h p q
  pub first : (i : ℕ) → i < p → ¬ Meet h i q

-- the least start at which an execution is met, and the first that is met there
pub record IsFirstMeeting (h : Holders) (at : ℕ × ℕ) : Type 0 where
  pub met : IsFirstMet h at.1 at.0
  pub before : (j : ℕ) → j < at.1 → MeetsNone h j

-- where executions meet first, if they do
abbrev pub IsMeeting : Holders → Option (ℕ × ℕ) → Type 0
IsMeeting h found = MatchOption found ((q : ℕ) → MeetsNone h q) (IsFirstMeeting h)

-- where executions meet first, if they do, and the least lock over which they conflict
abbrev pub IsCollision : Holders → Option (ℕ × ℕ × List ℕ) → Type 0
IsCollision h found =
    MatchOption found ((q : ℕ) → MeetsNone h q)
    (λ at. IsFirstMeeting h (at.0, at.1) × IsLeastAt h.conflicts at.0 at.1 at.2)

-- the numbered locks of a key
abbrev pub locks_of : Holders → Option ℕ → List NumberedLock
locks_of h None = []
locks_of h (Some key) = get_or h.locks.items key []

-- the numbered locks of the descriptor of the entry at a position
abbrev pub locks_at : Holders → ℕ → List NumberedLock
locks_at h p = locks_of h (key_at h.conflicts p)

-- the locks of the record's descriptors are numbered, where descriptors may conflict over them
pub record AreReady (h : Holders) : Type 0 where
  pub shared : AreShared h.conflicts h.numbers
  pub numbered : AreNumbered h.conflicts h.numbers h.locks.items

-- there are lists for a number
pub record HaveLists (running : Running) (number : ℕ) : Type 0 where
  pub writers : number < length running.writers
  pub readers : number < length running.readers

-- there are lists for each number
abbrev pub HaveAllLists : Holders → Running → Type 0
HaveAllLists h running = (number : ℕ) → number ≤ numbers_bound h.numbers → HaveLists running number

-- the starts under the number of `global`
abbrev pub under_global : Holders → List (List ℕ) → List ℕ
under_global h lists = get_or lists (numbers_bound h.numbers) []

-- p stands among the writers, or among the readers, as the mode asks
abbrev pub IsListedAs : LockMode → List ℕ → List ℕ → ℕ → Type 0
IsListedAs Read writers readers p = Contains readers p
IsListedAs ReadWrite writers readers p = Contains writers p

-- the execution that starts at p stands under the number of a lock that it holds
abbrev pub LockIsListed : Running → NumberedLock → ℕ → Type 0
LockIsListed running lock p =
    IsListedAs lock.mode (get_or running.writers lock.number [])
    (get_or running.readers lock.number []) p

-- the execution that starts at p stands under the number of each of its locks, and of `global`
-- where it is of a test without a child and some descriptor writes that lock
pub record IsListed (h : Holders) (running : Running) (p : ℕ) : Type 0 where
  pub locks : (k : NumberedLock) → Contains (locks_at h p) k → LockIsListed running k p
  pub global :
      (d : Descriptor) → descriptor_at h.conflicts p ≡ Some d → IsTestWithoutChild h.conflicts d →
      Contains (under_global h running.readers) p ⊎ IsUnwritten h.conflicts global_name

-- an execution of the key that starts at p, and ends no sooner than that one, stands in the lists
pub record Stands (h : Holders) (running : Running) (p : ℕ) : Type 0 where
  pub at : ℕ
  pub not_after : at ≤ p
  pub same : key_at h.conflicts at ≡ key_at h.conflicts p
  pub as_long : (i : ℕ) → i < length h.ends.items → i < end_of h p → i < end_of h at
  pub listed : IsListed h running at

-- each execution that starts before a position, and has not ended there, stands in the lists
pub record AreListed (h : Holders) (before : ℕ) (running : Running) : Type 0 where
  pub lists : HaveAllLists h running
  pub each : (p : ℕ) → p < before → before < end_of h p → Stands h running p

-- an execution of the key starts before a position, and lasts to the end
pub record LastsBefore (h : Holders) (before : ℕ) (key : Option ℕ) : Type 0 where
  pub at : ℕ
  pub sooner : at < before
  pub of_key : key_at h.conflicts at ≡ key
  pub lasts : length h.ends.items ≤ end_of h at

-- the key that starts at q has started before, and lasts to the end
abbrev pub Repeats : Holders → ℕ → Type 0
Repeats h q = LastsBefore h q (key_at h.conflicts q)

-- of each of these keys an execution starts before a position, and lasts to the end
abbrev pub AreLasting : {S : Type 0} → Holders → ℕ → IndexSet ℕ S → Type 0
AreLasting h before keys =
    (key : ℕ) → contains nat_eq keys key ≡ true → LastsBefore h before (Some key)

-- each execution lasts to the end
pub record AreForgotten (ends forgotten : List ℕ) : Type 0 where
  pub size : length forgotten ≡ length ends
  pub some : (p : ℕ) → 0 < get_or ends p 0 → get_or forgotten p 0 ≡ length ends
  pub only : (p : ℕ) → 0 < get_or forgotten p 0 → 0 < get_or ends p 0

-- what stands in the lists, and has not ended at q, stays there
pub record Keeps (h : Holders) (q : ℕ) (old new : Running) : Type 0 where
  pub writers :
      (n p : ℕ) → q < end_of h p → Contains (get_or old.writers n []) p →
      Contains (get_or new.writers n []) p
  pub readers :
      (n p : ℕ) → q < end_of h p → Contains (get_or old.readers n []) p →
      Contains (get_or new.readers n []) p
  pub lists : (number : ℕ) → HaveLists old number → HaveLists new number

-- none under the number of a lock, and no writer, meets the execution that starts at q and holds it
pub record LockMeetsNone (h : Holders) (running : Running) (lock : NumberedLock) (q : ℕ) :
    Type 0 where
  pub writers : (p : ℕ) → Contains (get_or running.writers lock.number []) p → ¬ Meet h p q
  pub readers : lock.mode ≡ ReadWrite →
      (p : ℕ) → Contains (get_or running.readers lock.number []) p → ¬ Meet h p q
