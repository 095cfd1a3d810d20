-- What a session that has ended keeps of numbers.
use Rattle.std.proofs.Common.{◌≡◌, ℕ, Bool, Option, List, subst}
use Rattle.std.proofs.Math.Logic.{∥∥₁_elim}
use denote.Struct.Props.{props}
use Rattle.dk_model.specs.Legal.{Opened}
use Rattle.dk_frame.specs.Decoding.{Decoding}
use Rattle.dk_pump.specs.declared.ends.SessionEnd.{SessionEnd}
use Rattle.dk_pump.specs.declared.ends.SessionEnd.TheVariants as ends
use Rattle.dk_pump.specs.Places.{IsSoundEnd}
use Rattle.dk_pump.specs.Reading.{IsCause}
use Rattle.dk_pump.specs.Sessions.{Ended, HasEnded, StopsBy}

sound_is_prop : (end : SessionEnd) → IsProp (IsSoundEnd end)
sound_is_prop ends.Logout = hlevel props
sound_is_prop (ends.End at) = hlevel props
sound_is_prop (ends.Truncated at) = hlevel props
sound_is_prop (ends.Bad bad) = hlevel props
sound_is_prop ends.ReadFault = hlevel props
sound_is_prop (ends.Flood waiting) = hlevel props
sound_is_prop ends.Closed = hlevel props
sound_is_prop (ends.Exhausted next) = hlevel props
sound_is_prop (ends.Budget bytes) = hlevel props
sound_is_prop ends.NoMemory = hlevel props

cause_is_sound : (end : SessionEnd) (left : Option (List ℕ)) (bytes : List ℕ) (d : Decoding) → IsCause end left bytes d → IsSoundEnd end
cause_is_sound ends.Logout left bytes d cause = tt
cause_is_sound (ends.End at) left bytes d cause = tt
cause_is_sound (ends.Truncated at) left bytes d cause = tt
cause_is_sound (ends.Bad bad) left bytes d cause = tt
cause_is_sound ends.ReadFault left bytes d cause = tt
cause_is_sound (ends.Flood waiting) left bytes d cause = tt
cause_is_sound ends.Closed left bytes d cause = tt
cause_is_sound (ends.Exhausted next) left bytes d cause = cause
cause_is_sound (ends.Budget bytes_read) left bytes d cause = tt
cause_is_sound ends.NoMemory left bytes d cause = tt

module _ (o : Opened) (keeps : Bool) (count : ℕ) (e : Ended) (m : ∥ HasEnded o keeps count e ∥₁) where
  -- where it found no number, numbers have come to their end
  pub ended_sound : IsSoundEnd e.end
  ended_sound = ∥∥₁_elim m (sound_is_prop e.end) (λ h.
      let read = h.whole.read in
      let stops = subst (λ end. StopsBy end e.given.left read.bytes read.lost h.course.decoder e.given.take_counted e.link.take_counted) h.reading read.stops in
      cause_is_sound e.end e.given.left read.bytes h.course.decoder stops.1)

  -- its pass is the one that it began with
  pub ended_number : e.pass.number ≡ e.began.number
  ended_number = ∥∥₁_elim m (hlevel props) (λ h. h.whole.number)
