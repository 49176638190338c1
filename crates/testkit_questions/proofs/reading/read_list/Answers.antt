use Rattle.std.proofs.Common.{inl, inr, map, refl, string_bytes}
use Rattle.testkit_questions.proofs.reading.read_list.Goals as goal

pub returns-in-Ok : goal.returns-in-Ok
returns-in-Ok c =
    let texts = map string_bytes c.in-Some.texts.now in
    inl (c.in-Some.selection, texts, c.in-Some.ensures.some, inl (c.in-Ok.conditions, c.in-Ok.ensures.ok, refl))

pub returns-in-Err : goal.returns-in-Err
returns-in-Err c =
    let texts = map string_bytes c.in-Some.texts.now in
    inl (c.in-Some.selection, texts, c.in-Some.ensures.some, inr (c.in-Err.fault, c.in-Err.ensures.err, refl))
