-- The keys of a unit's registrations.
use Rattle.std.proofs.Common.{◌≡◌, ◌<◌, ℕ, suc, ◌+◌, ◌==◌, nat_lt, true, false, List, [], ◌∷◌, ◌++◌, length, Option, Some, None, slice_get, refl, sym, ap, ◌∙◌, subst, arith, tests, if◌then◌else◌, inl, inr, ◌⊎◌}
use Rattle.std.specs.Prelude.{IsSome}
use Rattle.std.specs.Option.{option_or}
use Rattle.tk_ids.specs.declared.descriptors.Descriptor.{Descriptor}
use Rattle.tk_plan.specs.declared.trees.nodes.NumberedNode.{NumberedNode}
use Rattle.tk_run_laws.specs.Scripts.{HasKey, key_of, position}
use Rattle.tk_engine_scripted.specs.steps.{key_in, key_found}

-- one registration more
pub key_in_more : (base : ℕ) (known : List ℕ) (n node : ℕ) → key_in base (known ++ n ∷ []) node ≡ option_or (key_in base known node) (if n == node then Some (base + length known) else None)
key_in_more base [] n node = ap (λ k. if n == node then Some k else None) (let e : base ≡ base + 0 = omega arith in e)
key_in_more base (x ∷ known) n node =
    elim (x == node) as (λ b. (if b then Some base else key_in (base + 1) (known ++ n ∷ []) node) ≡ option_or (if b then Some base else key_in (base + 1) known node) (if n == node then Some (base + suc (length known)) else None)) [
      | true ↦ refl
      | false ↦ key_in_more (base + 1) known n node ∙ ap (λ k. option_or (key_in (base + 1) known node) (if n == node then Some k else None)) (let e : base + 1 + length known ≡ base + suc (length known) = omega arith in e)
    ]

-- a node that was registered has the key of its place
pub key_at_position : (base : ℕ) (known : List ℕ) (node : ℕ) → slice_get known (position node known) ≡ Some node → key_in base known node ≡ Some (base + position node known)
key_at_position base [] node e = cc
key_at_position base (x ∷ known) node e =
    elim (x == node) as (λ b. slice_get (x ∷ known) (if b then 0 else suc (position node known)) ≡ Some node → (if b then Some base else key_in (base + 1) known node) ≡ Some (base + (if b then 0 else suc (position node known)))) [
      | true ↦ λ h. ap Some (let s : base ≡ base + 0 = omega arith in s)
      | false ↦ λ h. key_at_position (base + 1) known node h ∙ ap Some (let s : base + 1 + position node known ≡ base + suc (position node known) = omega arith in s)
    ] e

module _ (nodes : List NumberedNode) (table : List Descriptor) (base : ℕ) (known : List ℕ) (keys : ℕ → Option ℕ) (are : (node : ℕ) → keys node ≡ key_in base known node) where
  -- a node that has a key has it here
  pub has_its_key : (node : ℕ) → HasKey nodes table known node → key_found (length table) keys node ≡ Some (key_of (length table) base known node)
  has_its_key node (inl h) =
      let less = h.0 in
      let lt : nat_lt node (length table) ≡ true = grind (arith, tests, less) in
      ap (λ b. if b then Some node else keys node) lt ∙ sym (ap (λ b. Some (if b then node else base + position node known)) lt)
  has_its_key node (inr h) =
      let more = h.0 in
      let lt : nat_lt node (length table) ≡ false = grind (arith, tests, more) in
      ap (λ b. if b then Some node else keys node) lt ∙ are node ∙ key_at_position base known node h.1 ∙ sym (ap (λ b. Some (if b then node else base + position node known)) lt)

  pub is_found : (node : ℕ) → HasKey nodes table known node → (node < length table) ⊎ IsSome (keys node)
  is_found node (inl h) = inl h.0
  is_found node (inr h) = inr (subst IsSome (sym (are node ∙ key_at_position base known node h.1)) refl)
