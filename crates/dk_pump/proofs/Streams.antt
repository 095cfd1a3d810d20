-- Bytes that are read piece by piece, and what a decoder makes of them.
use Rattle.std.proofs.Common.{◌≡◌, ℕ, List, [], ◌∷◌, ◌++◌, Option, Some, None, refl, sym, ap, subst, ◌∙◌, append_assoc}
use Rattle.std.proofs.lemmas.List.{append-nil, append_cancel_left}
use Rattle.std.specs.Io.KnownBytes.{Consumes, Appends, Keeps, IsAtEnd}
use Rattle.dk_model.specs.Frames.{Frame, Fault, Nothing, IsStream}
use Rattle.dk_frame.specs.Decoding.{Decoding, HasDecoded, IsNotBegun, following, following_at}
use Rattle.dk_frame.proofs.Apart.{one_reading}
use Rattle.dk_pump.specs.declared.ends.SessionEnd.{SessionEnd}
use Rattle.dk_pump.specs.declared.ends.SessionEnd.TheVariants as ends
use Rattle.dk_pump.specs.Reading.{IsWhole, IsCause}

-- ---- what is left of a source

pub consumes_none : (a : Option (List ℕ)) → Consumes a a []
consumes_none None = tt
consumes_none (Some xs) = refl

pub consumes_then : (a b c : Option (List ℕ)) (bs cs : List ℕ) → Consumes a b bs → Consumes b c cs → Consumes a c (bs ++ cs)
consumes_then None b c bs cs one two = tt
consumes_then (Some xs) None c bs cs one two = absurd one
consumes_then (Some xs) (Some ys) None bs cs one two = two
consumes_then (Some xs) (Some ys) (Some zs) bs cs one two = one ∙ ap (λ l. bs ++ l) two ∙ sym (append_assoc bs cs zs)

pub keeps_consumes : (a b : Option (List ℕ)) → Keeps a b → Consumes a b []
keeps_consumes None b keeps = tt
keeps_consumes (Some xs) None keeps = keeps
keeps_consumes (Some xs) (Some ys) keeps = sym keeps

pub whole_at_end : (a : Option (List ℕ)) → IsAtEnd a → IsWhole a []
whole_at_end None end = tt
whole_at_end (Some xs) end = end

whole_then : (a b : Option (List ℕ)) (bs cs : List ℕ) → Consumes a b bs → IsWhole b cs → IsWhole a (bs ++ cs)
whole_then None b bs cs one whole = tt
whole_then (Some xs) None bs cs one whole = absurd one
whole_then (Some xs) (Some ys) bs cs one whole = one ∙ ap (λ l. bs ++ l) whole

-- a cause that was found behind more bytes
pub cause_then : (end : SessionEnd) (a b : Option (List ℕ)) (bs cs : List ℕ) (d : Decoding) → Consumes a b bs → IsCause end b cs d → IsCause end a (bs ++ cs) d
cause_then ends.Logout a b bs cs d one cause = cause
cause_then (ends.End at) a b bs cs d one cause = (cause.0, cause.1, whole_then a b bs cs one cause.2, cause.3)
cause_then (ends.Truncated at) a b bs cs d one cause = (cause.0, whole_then a b bs cs one cause.1, cause.2)
cause_then (ends.Bad bad) a b bs cs d one cause = cause
cause_then ends.ReadFault a b bs cs d one cause = cause
cause_then (ends.Flood waiting) a b bs cs d one cause = cause
cause_then ends.Closed a b bs cs d one cause = cause
cause_then (ends.Exhausted next) a b bs cs d one cause = cause
cause_then (ends.Budget bytes) a b bs cs d one cause = cause
cause_then ends.NoMemory a b bs cs d one cause = cause

-- ---- what a sink was given

pub appends_none : (a : Option (List ℕ)) → Appends a a []
appends_none None = tt
appends_none (Some xs) = sym (append-nil xs)

pub appends_then : (a b c : Option (List ℕ)) (bs cs : List ℕ) → Appends a b bs → Appends b c cs → Appends a c (bs ++ cs)
appends_then None b c bs cs one two = tt
appends_then (Some xs) None c bs cs one two = absurd one
appends_then (Some xs) (Some ys) None bs cs one two = two
appends_then (Some xs) (Some ys) (Some zs) bs cs one two = two ∙ ap (λ l. l ++ cs) one ∙ append_assoc xs bs cs

-- ---- a decoder that is fed nothing

-- it gives no frame
pub none_given : (d d' : Decoding) (stream : List ℕ) (given frames : List Frame) → HasDecoded d stream given → HasDecoded d' (stream ++ []) (given ++ frames) → frames ≡ []
none_given d d' stream given frames s s' =
    let now : IsStream stream (given ++ frames) (following d') = subst (λ bytes. IsStream bytes (given ++ frames) (following d')) (append-nil stream) s'.is in
    let same : given ≡ given ++ frames = (one_reading stream given (given ++ frames) (following d) (following d') s.is now).0 in
    append_cancel_left given frames [] (sym same ∙ sym (append-nil given))

-- and stands for the stream as before
pub stands_as : (d d' : Decoding) (stream : List ℕ) (given frames : List Frame) → HasDecoded d stream given → HasDecoded d' (stream ++ []) (given ++ frames) → HasDecoded d' stream given
stands_as d d' stream given frames s s' =
    subst (λ bytes. HasDecoded d' bytes given) (append-nil stream)
    (subst (λ fs. HasDecoded d' (stream ++ []) fs) (ap (λ fs. given ++ fs) (none_given d d' stream given frames s s') ∙ append-nil given) s')

-- where no bad frame follows and none is begun, nothing follows
nothing_at : (at : ℕ) (held : List ℕ) (fault : Option Fault) → fault ≡ None → IsNotBegun (following_at at held fault) → following_at at held fault ≡ Nothing
nothing_at at held (Some f) none not = absurd (cc none)
nothing_at at [] None none not = refl
nothing_at at (b ∷ held) None none not = absurd not

pub nothing_follows : (d : Decoding) → d.fault ≡ None → IsNotBegun (following d) → following d ≡ Nothing
nothing_follows d none not = nothing_at d.at d.held d.fault none not
