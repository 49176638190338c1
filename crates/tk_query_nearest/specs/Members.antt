-- The members of a condition, and which of them don't hold of an event.
use Rattle.std.specs.Prelude.{ℕ, not, List, [], ◌∷◌, ◌++◌, codes, filter, flat_map}
use Rattle.tk_events.specs.declared.events.Entry.{Entry}
use Rattle.tk_record.specs.Recorded.{Recorded}
use Rattle.tk_query_conditions.specs.Cond.{Cond, All, Conds, Nothing, More, cond_text}
use Rattle.tk_query.specs.Holds.{cond_holds}

abbrev mutual
  -- of `all(..)` the members of its conditions, in their order; of any other condition itself
  pub members : Cond → List Cond
  members (All cs) = members_of cs
  members c = c ∷ []

  -- the members of conditions, in their order
  pub members_of : Conds → List Cond
  members_of Nothing = []
  members_of (More cs c) = members_of cs ++ members c

-- the members that don't hold of an entry of the record, in their order
abbrev pub lacking : Recorded → Cond → Entry → List Cond
lacking r c e = filter (λ member. not (cond_holds r member e)) (members c)

-- the texts of conditions, with a comma and a blank before each but the first
abbrev pub joined : List Cond → List ℕ
joined [] = []
joined (c ∷ cs) = cond_text c ++ flat_map (λ d. codes ", " ++ cond_text d) cs

-- the texts of the members that don't hold of an entry of the record
abbrev pub lacking_text : Recorded → Cond → Entry → List ℕ
lacking_text r c e = joined (lacking r c e)
