use Rattle.std.proofs.Common.{Err, ap, inl, inr, map, refl, string_bytes}
use Rattle.std.proofs.lemmas.Result.{err_from_is_err_and}
use Rattle.tk_record_text.specs.declared.reading.ReadFault.TheVariants as read
use Rattle.testkit_questions.proofs.AskLemmas.{answered, answered_partly, answered_refusal}
use Rattle.testkit_questions.proofs.AskLemmas.{no_device, no_fault, no_source, no_target, not_of_words}
use Rattle.testkit_questions.proofs.AskLemmas.{refused_read, refused_words, same_fault, unread_in_time}
use Rattle.testkit_questions.proofs.AskLemmas.{whole_in_time, written_device, written_no_source}
use Rattle.testkit_questions.proofs.AskLemmas.{written_unread, written_unwritten}
use Rattle.testkit_questions.proofs.asking.ask.Goals as goal

pub returns-in_err-request : goal.returns-in_err-request
returns-in_err-request g c =
    let p = err_from_is_err_and c.from_residual.result c.from_residual.ensures.1 in
    let words = map string_bytes c.args.words.now in
    let fault = c.in_err-request.field-0.0 in
    let asked = c.in_err-request.ensures in
    rw (p.1, p.2) (record {
      answer = tt;
      end = tt;
      unread = λ _. refl;
      refusal = refused_words words _ fault asked;
      unwritten = inr refl;
      device = λ e. absurd (no_device words fault asked e);
      prefix = λ e. absurd (no_device words fault asked e);
      source_device = λ e. absurd (no_source words fault read.Device asked e);
      stops = unread_in_time _;
    })

pub returns-in_err-recorded : goal.returns-in_err-recorded
returns-in_err-recorded g c =
    let p = err_from_is_err_and c.from_residual-in_err-recorded.result c.from_residual-in_err-recorded.ensures.1 in
    let words = map string_bytes c.args.words.now in
    let fault = c.in_err-recorded.field-0.0 in
    let refused = c.in_err-recorded.ensures.refusal in
    rw (p.1, p.2) (record {
      answer = tt;
      end = tt;
      unread = λ h. absurd (not_of_words _ fault refused h);
      refusal = refused_read words _ c.in_ok-request.request fault c.in_ok-request.ensures refused;
      unwritten = inr refl;
      device = λ e. absurd (no_target _ fault refused e);
      prefix = λ e. absurd (no_target _ fault refused e);
      source_device = λ e. c.in_err-recorded.ensures.device (ap (λ f. Err f) (same_fault _ _ e));
      stops = inl c.in_err-recorded.ensures.stops;
    })

pub returns-in_err-is_yes : goal.returns-in_err-is_yes
returns-in_err-is_yes g c =
    let p = err_from_is_err_and c.from_residual-in_err-is_yes.result c.from_residual-in_err-is_yes.ensures.1 in
    let words = map string_bytes c.args.words.now in
    let input = g.S.Source.remaining c.args.source.now in
    let q = c.in_ok-request.request in
    let asks = c.in_ok-request.ensures in
    let fault = c.in_err-is_yes.field-0.0 in
    let had = c.in_ok-recorded.ensures.answer in
    let w = c.in_err-is_yes.ensures in
    rw (p.1, p.2) (record {
      answer = tt;
      end = tt;
      unread = λ h. absurd (written_unread fault h);
      refusal = answered_refusal words q asks input fault;
      unwritten = written_unwritten fault _ w.unwritten;
      device = λ e. written_device fault _ w.device (same_fault _ _ e);
      prefix = λ e. answered_partly words q asks input _ _ _ fault had w.written (same_fault _ _ e);
      source_device = λ e. absurd (written_no_source fault read.Device (same_fault _ _ e));
      stops = whole_in_time _ _ _ c.in_ok-recorded.ensures.end had;
    })

pub returns : goal.returns
returns g c =
    let words = map string_bytes c.args.words.now in
    let input = g.S.Source.remaining c.args.source.now in
    let had = c.in_ok-recorded.ensures.answer in
    record {
      answer = answered words _ c.in_ok-request.ensures input _ _ _ _ had c.in_ok-is_yes.ensures.written;
      end = c.in_ok-recorded.ensures.end;
      unread = tt;
      refusal = tt;
      unwritten = tt;
      device = λ e. absurd (no_fault _ _ e);
      prefix = λ e. absurd (no_fault _ _ e);
      source_device = λ e. absurd (no_fault _ _ e);
      stops = whole_in_time _ _ _ c.in_ok-recorded.ensures.end had;
    }
