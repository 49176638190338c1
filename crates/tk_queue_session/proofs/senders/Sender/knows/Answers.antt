use Rattle.std.proofs.Common.{◌≡◌, ap, sym, refl, ◌∙◌, Bor}
use Rattle.std.specs.Prelude.{Option, Some, None, is_some, option_map}
use Rattle.std.specs.Option.{option_copied}
use Rattle.tk_queue_session.proofs.senders.Sender.knows.Goals as goal

mapped_some : {X Y : Type 0} (f : X → Y) (o : Option X) → is_some (option_map f o) ≡ is_some o
mapped_some f None = refl
mapped_some f (Some x) = refl

copied_some : {X : Type 0} (o : Option (Bor X)) → is_some (option_copied o) ≡ is_some o
copied_some None = refl
copied_some (Some x) = refl

pub returns : goal.returns
returns c = c.is_some.ensures ∙ sym (copied_some c.id_of.result) ∙ ap is_some c.id_of.ensures ∙ mapped_some (λ d. d.id) _
