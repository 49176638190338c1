use Rattle.std.proofs.Common.{◌≡◌, ℕ, Bool, true, false, List, Option, Some, None, nat_eq, refl, sym, ap, ◌∙◌}
use Rattle.std.specs.Prelude.{◌≢◌, MatchOption, bytes_eq, if◌then◌else◌, is_some, unwrap_or}
use Rattle.std.specs.Cmp.Lexicographic.{bytes_decides, pointwise}
use Rattle.std.proofs.lemmas.Bool.{false≢true}
use Rattle.std.proofs.lemmas.Slice.Eq.{bytes_eq-Decides}
use Rattle.indexmap.specs.IndexSet.{contains_by, index_of_by, index_set_len}
use Rattle.tk_query_locks.specs.Conflicts.{global_name}
use Rattle.tk_query_locks.specs.declared.lock_numbers.LockNumbers.{LockNumbers}
use Rattle.tk_query_locks.specs.steps.LockNumbers.{IsUnshared, number_of}
use Rattle.tk_query_locks.proofs.lock_numbers.LockNumbers.number.Goals as goal

-- another name than `global` has its place among the shared ones
other_number : (n : LockNumbers) (name : List ℕ) → name ≢ global_name → number_of n name ≡ unwrap_or (index_of_by (pointwise nat_eq name) n.shared) (index_set_len n.shared)
unfolding number_of
other_number n name other = by (bytes_eq name global_name) refl
  where
    by : (b : Bool) → bytes_eq name global_name ≡ b →
        (if b then index_set_len n.shared else unwrap_or (index_of_by (pointwise nat_eq name) n.shared) (index_set_len n.shared))
        ≡ unwrap_or (index_of_by (pointwise nat_eq name) n.shared) (index_set_len n.shared)
    by true same = absurd (other ((bytes_eq-Decides name global_name).0 same))
    by false _ = refl

place_is : (n : LockNumbers) (name : List ℕ) → name ≢ global_name → (o : Option ℕ) →
    o ≡ index_of_by (pointwise nat_eq name) n.shared → is_some o ≡ contains_by (pointwise nat_eq name) n.shared →
    MatchOption o (IsUnshared n name) (λ number. number ≡ number_of n name)
place_is n name other None at found = record { other = other; alone = λ shared. false≢true (found ∙ shared) }
place_is n name other (Some number) at found =
    ap (λ o. unwrap_or o (index_set_len n.shared)) at ∙ sym (other_number n name other)

pub returns : goal.returns
returns c =
    place_is c.args.self.now c.args.name.now
    (λ same. false≢true (sym c.if-eq.false ∙ c.eq.ensures ∙ (bytes_decides _ _).1 (c.as_str.ensures ∙ same)))
    c.get_index_of.result c.get_index_of.ensures.index c.get_index_of.ensures.found
