use Rattle.std.proofs.Common.{arith}
use Rattle.std.proofs.lemmas.List.{length-map}
use Rattle.tk_record.specs.Selections.{all_of}
use Rattle.tk_explanations.specs.Collisions.{ExplainsExclusive}
use Rattle.tk_expectations.specs.Expectations.{texts_of}
use Rattle.tk_expectations.proofs.Judging.{are_holders, as_many, asked_refuses, judged_holders}
use Rattle.tk_expectations.proofs.expectations.Expect.apart_as.Goals as goal

pub holders-writers-requires-clause-some : goal.holders-writers-requires-clause-some
holders-writers-requires-clause-some c =
    let many = as_many (texts_of c.args.texts.now) c.in_ok-conditions.conditions.items c.in_ok-conditions.ensures.ok in
    let same = length-map c.args.texts.now (λ t. t.now) in
    let some = c.requires.some in
    omega arith

pub holders-writers-requires-clause-few : goal.holders-writers-requires-clause-few
holders-writers-requires-clause-few c =
    let many = as_many (texts_of c.args.texts.now) c.in_ok-conditions.conditions.items c.in_ok-conditions.ensures.ok in
    let same = length-map c.args.texts.now (λ t. t.now) in
    let few = c.requires.few in
    omega arith

pub returns-clause-judged : goal.returns-clause-judged
returns-clause-judged c =
    let texts = texts_of c.args.texts.now in
    let both = c.holders-writers.result in
    judged_holders c.args.self texts both.0 both.1
    (ExplainsExclusive (all_of c.args.self.«record».now)) c.apart-judged.result
    (are_holders texts c.in_ok-conditions.conditions.items both.0 both.1
    c.in_ok-conditions.ensures.ok c.holders-writers.ensures)
    c.apart-judged.ensures.judged

pub returns-clause-refused : goal.returns-clause-refused
returns-clause-refused c =
    asked_refuses (texts_of c.args.texts.now) c.apart-judged.result c.apart-judged.ensures.asked
