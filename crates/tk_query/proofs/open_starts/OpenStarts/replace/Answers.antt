use Rattle.std.proofs.Common.{◌≡◌, ◌<◌, ◌≤◌, length, get_or, set, [], None, refl, ap, sym, ◌∙◌, subst, arith}
use Rattle.std.specs.Prelude.{◌/◌, ◌%◌, ◌==◌, if◌then◌else◌}
use Rattle.std.proofs.lemmas.List.{get_or_default, length-set}
use Rattle.tk_query_lifecycle.proofs.ListLemmas.{get_or_put}
use Rattle.tk_query.specs.Pairing.{open_of, HasSlot}
use Rattle.tk_query.proofs.KeyLemmas.{slots_kept, row_within, replaced}
use Rattle.tk_query.proofs.open_starts.OpenStarts.replace.Goals as goal

pub index_mut-requires : goal.index_mut-requires
index_mut-requires c =
    let within = row_within c.self.inside.rows.items c.args.key (subst (λ l. HasSlot l c.args.key) (sym c.self.view_is) c.requires) in
    omega (arith, within)

pub replace-requires : goal.replace-requires
replace-requires c =
    let rows = c.self.inside.rows.items in
    let at = c.args.key / 65536 in
    let has = subst (λ l. HasSlot l c.args.key) (sym c.self.view_is) c.requires in
    let row = c.index_mut.ensures.value ∙ get_or_default rows at c.index_mut.result.now [] (row_within rows c.args.key has) in
    subst (λ l. c.args.key % 65536 < length l) (sym row) has

pub returns : goal.returns
returns c =
    let rows = c.self.inside.rows.items in
    let key = c.args.key in
    let at = key / 65536 in
    let has = subst (λ l. HasSlot l key) (sym c.self.view_is) c.requires in
    let within = row_within rows key has in
    let row : c.index_mut.result.now ≡ get_or rows at [] = c.index_mut.ensures.value ∙ get_or_default rows at c.index_mut.result.now [] within in
    let new : c.replace.new.self ≡ set (get_or rows at []) (key % 65536) c.args.start = c.replace.ensures.after ∙ ap (λ l. set l (key % 65536) c.args.start) row in
    let same : length c.replace.new.self ≡ length (get_or rows at []) = ap length new ∙ length-set (get_or rows at []) (key % 65536) c.args.start in
    let long : length (get_or rows at []) ≤ length c.replace.new.self = omega (arith, same) in
    record {
      before = c.replace.ensures.before ∙ ap (λ l. get_or l (key % 65536) None) row ∙ ap (λ l. open_of l key) c.self.view_is;
      after = λ q. replaced rows c.replace.new.self key c.args.start within
          (λ i. ap (λ l. get_or l i None) new ∙ get_or_put (get_or rows at []) (key % 65536) i c.args.start None has) q
          ∙ ap (λ l. if key == q then c.args.start else open_of l q) c.self.view_is;
      slots = λ q had. slots_kept rows rows (λ k. refl) at c.replace.new.self within long q (subst (λ l. HasSlot l q) (sym c.self.view_is) had);
    }
