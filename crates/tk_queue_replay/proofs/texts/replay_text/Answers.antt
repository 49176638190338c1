use Rattle.std.proofs.Common.{◌≡◌, ◌≤◌, ◌<◌, ◌++◌, ◌+◌, ℕ, List, length, Option, Some, None, Ok, Err, sym, ap, subst, refl, inl, inr, ◌∙◌}
use Rattle.std.proofs.Common.{append-nil, arith}
use Rattle.std.specs.Prelude.{IfSome, IsErrOf}
use Rattle.std.specs.Io.KnownBytes.{Appends}
use Rattle.std.proofs.lemmas.Result.{err_from_is_err_and}
use Rattle.std.proofs.lemmas.Bool.{both_ways}
use Rattle.tk_record.specs.Recorded.{Recorded}
use Rattle.tk_record_text.specs.Text.{text}
use Rattle.tk_record_text.specs.declared.reading.TheConstants.{MAX_TEXT}
use Rattle.tk_record_text.specs.declared.writing.WriteFault.{WriteFault}
use Rattle.tk_record_text.specs.declared.writing.WriteFault.TheVariants as writing
use Rattle.tk_streams.specs.Stream.{IsLoaded, AppendsPrefix, ConsumesUpTo}
use Rattle.tk_streams.specs.declared.transfers.TheConstants.{CHUNK}
use Rattle.tk_streams.specs.declared.transfers.LoadFault.{LoadFault}
use Rattle.tk_streams.specs.declared.transfers.LoadFault.TheVariants as loading
use Rattle.tk_queue_replay.specs.ReplayText.{IsAnswer, IsOfInput, IsPlayed, IsWritten, Plays, IsPartlyWritten, load_fault, write_fault}
use Rattle.tk_queue_replay.specs.declared.replays.ReplayFault.{ReplayFault}
use Rattle.tk_queue_replay.specs.declared.replays.ReplayFault.TheVariants as faults
use Rattle.tk_queue_replay.proofs.texts.replay_text.Goals as goal

-- an input that was loaded is what was loaded
whole : (input bytes rest : List ℕ) → IsLoaded (Some input) (Some rest) bytes → bytes ≡ input
whole input bytes rest all = sym (all.0 ∙ ap (λ (t : List ℕ). bytes ++ t) all.1 ∙ append-nil bytes)

-- it was taken within the limit
stops_of : (old new : Option (List ℕ)) (bytes : List ℕ) → IsLoaded old new bytes → length bytes ≤ MAX_TEXT → ConsumesUpTo (MAX_TEXT + CHUNK) old new
stops_of old new bytes all few = (bytes, all.0, omega (arith, few))

-- it plays as what was loaded does
plays : (old new : Option (List ℕ)) (bytes played : List ℕ) (r : Recorded) → IsLoaded old new bytes → length bytes ≤ MAX_TEXT → played ≡ bytes → IsPlayed played (Ok r)
    → IfSome old (λ input. (length input ≤ MAX_TEXT) × IsPlayed input (Ok r))
plays None new bytes played r all few same h = tt
plays (Some input) None bytes played r all few same h = absurd all.0
plays (Some input) (Some rest) bytes played r all few same h =
    let is = whole input bytes rest all in
    (subst (λ (t : List ℕ). length t ≤ MAX_TEXT) is few, subst (λ (t : List ℕ). IsPlayed t (Ok r)) (same ∙ is) h)

some_plays : (old : Option (List ℕ)) (r : Recorded) → IfSome old (λ input. (length input ≤ MAX_TEXT) × IsPlayed input (Ok r)) → IfSome old Plays
some_plays None r h = tt
some_plays (Some input) r h = (h.0, (r, h.1))

partly : (old : Option (List ℕ)) (r : Recorded) (before after : Option (List ℕ)) → IfSome old (λ input. (length input ≤ MAX_TEXT) × IsPlayed input (Ok r)) → AppendsPrefix before after (text r)
    → IfSome old (λ input. IsPartlyWritten input before after)
partly None r before after h added = tt
partly (Some input) r before after h added = (h.0, (r, h.1, added))

wholly : (old : Option (List ℕ)) (r : Recorded) (before after : Option (List ℕ)) → IfSome old (λ input. (length input ≤ MAX_TEXT) × IsPlayed input (Ok r)) → Appends before after (text r)
    → IfSome old (λ input. IsWritten input before after)
wholly None r before after h added = tt
wholly (Some input) r before after h added = (r, h.1, added)

-- a refusal by playing is one of the input
answers : (input : List ℕ) (fault : ReplayFault) → length input ≤ MAX_TEXT → IsPlayed input (Err fault) → IsAnswer input (Err fault)
answers input faults.NoHeader few h = (few, h)
answers input (faults.BadLine k) few h = (few, h)
answers input (faults.AfterEnd i) few h = (few, h)
answers input (faults.Append i fault) few h = (few, h)
answers input faults.TooLarge few h = absurd h
answers input faults.Device few h = absurd h
answers input faults.Memory few h = tt

refused : (old new : Option (List ℕ)) (bytes played : List ℕ) (fault : ReplayFault) → IsLoaded old new bytes → length bytes ≤ MAX_TEXT → played ≡ bytes → IsPlayed played (Err fault)
    → IfSome old (λ input. IsAnswer input (Err fault))
refused None new bytes played fault all few same h = tt
refused (Some input) None bytes played fault all few same h = absurd all.0
refused (Some input) (Some rest) bytes played fault all few same h =
    let is = whole input bytes rest all in
    answers input fault (subst (λ (t : List ℕ). length t ≤ MAX_TEXT) is few) (subst (λ (t : List ℕ). IsPlayed t (Err fault)) (same ∙ is) h)

no_device : (played : List ℕ) (fault : ReplayFault) → IsPlayed played (Err fault) → fault ≡ faults.Device → ⊥
no_device played fault h e = subst (λ (f : ReplayFault). IsPlayed played (Err f)) e h

-- faults of loading
load_answer : (old : Option (List ℕ)) (fault : LoadFault) → (fault ≡ loading.TooLarge → IfSome old (λ bytes. MAX_TEXT < length bytes)) → ¬ (IsErrOf {T = Unit} (Err (load_fault fault)) faults.Device)
    → IfSome old (λ input. IsAnswer input (Err (load_fault fault)))
load_answer None fault large other = tt
load_answer (Some input) loading.TooLarge large other = large refl
load_answer (Some input) loading.Device large other = absurd (other refl)
load_answer (Some input) loading.Memory large other = tt

load_device : (fault : LoadFault) → load_fault fault ≡ faults.Device → fault ≡ loading.Device
load_device loading.TooLarge e = cc
load_device loading.Device e = refl
load_device loading.Memory e = cc

-- faults of writing
write_answer : (old : Option (List ℕ)) (fault : WriteFault) → ¬ (IsErrOf {T = Unit} (Err (write_fault fault)) faults.Device) → IfSome old (λ input. IsAnswer input (Err (write_fault fault)))
write_answer None fault other = tt
write_answer (Some input) writing.Device other = absurd (other refl)
write_answer (Some input) writing.Memory other = tt

write_device : (fault : WriteFault) → write_fault fault ≡ faults.Device → fault ≡ writing.Device
write_device writing.Device e = refl
write_device writing.Memory e = cc

not_of_input : (fault : WriteFault) → ¬ (IsOfInput (write_fault fault))
not_of_input writing.Device h = h
not_of_input writing.Memory h = h

same_fault : (a b : ReplayFault) → IsErrOf {T = Unit} (Err a) b → a ≡ b
same_fault a b e = cc

no_fault : (x : Unit) (fault : ReplayFault) → ¬ (IsErrOf {T = Unit} (Ok x) fault)
no_fault x fault e = cc

pub returns-in_err-input : goal.returns-in_err-input
returns-in_err-input g c =
    let p = err_from_is_err_and c.from_residual.result c.from_residual.ensures.1 in
    let fault = c.in_err-input.field-0.0 in
    rw (p.1, p.2) (record {
      answer = load_answer _ fault (λ e. c.in_err-input.ensures.too_large (ap (λ f. Err f) e));
      ok = tt;
      written = tt;
      nothing = λ _. refl;
      prefix = inl refl;
      unread = λ _. refl;
      last = λ e ready. absurd {A = IfSome _ Plays}
          (both_ways _ ready (c.in_err-input.ensures.device (ap (λ f. Err f) (load_device fault (same_fault _ _ e)))));
      device = λ e. inl (c.in_err-input.ensures.device (ap (λ f. Err f) (load_device fault (same_fault _ _ e))));
      stops = c.in_err-input.ensures.stops;
    })

pub returns-in_err-taken : goal.returns-in_err-taken
returns-in_err-taken g c =
    let p = err_from_is_err_and c.from_residual-in_err-taken.result c.from_residual-in_err-taken.ensures.1 in
    let fault = c.in_err-taken.field-0.0 in
    rw (p.1, p.2) (record {
      answer = λ _. refused _ _ c.in_ok-input.input.items c.as_slice.result.now fault c.in_ok-input.ensures.ok c.in_ok-input.ensures.within c.as_slice.ensures.value c.in_err-taken.ensures;
      ok = tt;
      written = tt;
      nothing = λ _. refl;
      prefix = inl refl;
      unread = λ _. refl;
      last = λ e _. absurd {A = IfSome _ Plays} (no_device c.as_slice.result.now fault c.in_err-taken.ensures (same_fault _ _ e));
      device = λ e. absurd (no_device c.as_slice.result.now fault c.in_err-taken.ensures (same_fault _ _ e));
      stops = stops_of _ _ c.in_ok-input.input.items c.in_ok-input.ensures.ok c.in_ok-input.ensures.within;
    })

pub returns-in_err-write_record : goal.returns-in_err-write_record
returns-in_err-write_record g c =
    let p = err_from_is_err_and c.from_residual-in_err-write_record.result c.from_residual-in_err-write_record.ensures.1 in
    let fault = c.in_err-write_record.field-0.0 in
    let taken = c.in_ok-taken.taken in
    let played = plays _ _ c.in_ok-input.input.items c.as_slice.result.now taken c.in_ok-input.ensures.ok c.in_ok-input.ensures.within c.as_slice.ensures.value c.in_ok-taken.ensures in
    rw (p.1, p.2) (record {
      answer = write_answer _ fault;
      ok = tt;
      written = tt;
      nothing = λ h. absurd (not_of_input fault h);
      prefix = inr (partly _ taken _ _ played c.in_err-write_record.ensures.err);
      unread = λ broken. absurd (both_ways _ c.in_ok-input.ensures.ready broken);
      last = λ _ _. some_plays _ taken played;
      device = λ e. inr (c.in_err-write_record.ensures.device (ap (λ f. Err f) (write_device fault (same_fault _ _ e))));
      stops = stops_of _ _ c.in_ok-input.input.items c.in_ok-input.ensures.ok c.in_ok-input.ensures.within;
    })

pub returns : goal.returns
returns g c =
    let taken = c.in_ok-taken.taken in
    let played = plays _ _ c.in_ok-input.input.items c.as_slice.result.now taken c.in_ok-input.ensures.ok c.in_ok-input.ensures.within c.as_slice.ensures.value c.in_ok-taken.ensures in
    record {
      answer = λ _. some_plays _ taken played;
      ok = c.in_ok-input.ensures.ok.1;
      written = wholly _ taken _ _ played c.in_ok-write_record.ensures.ok;
      nothing = tt;
      prefix = tt;
      unread = λ broken. absurd (both_ways _ c.in_ok-input.ensures.ready broken);
      last = λ e. absurd (no_fault _ _ e);
      device = λ e. absurd (no_fault _ _ e);
      stops = stops_of _ _ c.in_ok-input.input.items c.in_ok-input.ensures.ok c.in_ok-input.ensures.within;
    }
