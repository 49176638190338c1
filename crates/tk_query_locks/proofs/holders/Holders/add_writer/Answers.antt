use Rattle.std.proofs.Common.{ℕ, ◌<◌, get_or, sym, subst, arith}
use Rattle.tk_query_locks.specs.steps.Holders.{end_of}
use Rattle.tk_query_locks.proofs.holders.Holders.add_writer.Goals as goal

pub returns-clause-kept : goal.returns-clause-kept
returns-clause-kept c =
    let h = c.args.self.now in
    let running = λ (p : ℕ) (lt : c.args.second < end_of h p). subst (λ l. c.args.second < get_or l p 0) (sym c.deref.ensures.value) lt in
    let running2 = λ (p : ℕ) (lt : c.args.second < end_of h p). subst (λ l. c.args.second < get_or l p 0) (sym c.deref-2.ensures.value) lt in
    let running3 = λ (p : ℕ) (lt : c.args.second < end_of h p). subst (λ l. c.args.second < get_or l p 0) (sym c.deref-3.ensures.value) lt in
    let one = c.forget.ensures.size in
    let two = c.forget-2.ensures.size in
    let three = c.push.ensures.size in
    record {
      writers = λ n p lt has. c.in_ok-push.ensures.kept n p (running3 p lt) (c.forget.ensures.kept n p (running p lt) has);
      readers = λ n p lt has. c.forget-2.ensures.kept n p (running2 p lt) has;
      lists = λ number have. let low = have.writers in let high = have.readers in record {
        writers = omega (arith, one, three, low);
        readers = omega (arith, two, high);
      };
    }
