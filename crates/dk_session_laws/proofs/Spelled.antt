-- The record of a session is read again from the bytes that it is saved as.
use Rattle.std.proofs.Common.{◌≡◌, ℕ, ◌+◌, ◌<◌, ◌≤◌, ◌^◌, false, All, None, Some, List, [], ◌∷◌, ◌++◌, length, length-append, ap, arith, ltb-false}
use Rattle.std.specs.List.{flat_map}
use Rattle.std.specs.Result.{result_ok}
use Rattle.std.proofs.lemmas.List.Elements.{recursion_from_All}
use Rattle.dk_types.specs.declared.limits.TheConstants.{BODY_MOST_BYTES}
use Rattle.dk_types.specs.Fields.{IsU64, u32_spelling, u64_spelling, name_spelling}
use Rattle.dk_types.specs.Lists.{list_spelling}
use Rattle.dk_types.specs.Names.{IsName}
use Rattle.dk_types.proofs.ListLaws.{chained_all}
use Rattle.dk_wire.proofs.WholeLaws.{whole_again}
use Rattle.dk_model.specs.declared.records.SessionRecord.{SessionRecord}
use Rattle.dk_model.specs.Records.{session_bytes, next_session, session_of}
use Rattle.dk_model.specs.Runs.{is_too_long}
use Rattle.dk_records.specs.RecordLaws.{IsSessionRecord, each_session_exact}

-- names take a byte each at least
names_long : (names : List (List ℕ)) → length names ≤ length (flat_map name_spelling names)
unfolding name_spelling
names_long [] = omega arith
names_long (x ∷ names) = let rest = names_long names in let both = length-append (length x ∷ x) (flat_map name_spelling names) in omega (arith, rest, both)

-- a record that is not too long has fewer than 2^32 channels
few_channels : (r : SessionRecord) → is_too_long (session_bytes r) ≡ false → length r.channels < 2 ^ 32
unfolding list_spelling
few_channels r short =
    let all = length-append (u64_spelling r.conn.0) (u32_spelling (length r.channels) ++ flat_map name_spelling r.channels) in
    let rest = length-append (u32_spelling (length r.channels)) (flat_map name_spelling r.channels) in
    let long = names_long r.channels in
    let most : length (session_bytes r) ≤ BODY_MOST_BYTES = ltb-false _ _ short in
    omega (arith, all, rest, long, most)

-- what is saved is read
pub read_again : (r : SessionRecord) → IsU64 r.conn.0 → All IsName r.channels → is_too_long (session_bytes r) ≡ false → session_of (session_bytes r) ≡ Some r
unfolding session_of
read_again r number names short =
    let fits : IsSessionRecord r = record { conn = number; channels = record { count = few_channels r short; each = chained_all IsName None r.channels (recursion_from_All IsName r.channels names) } } in
    ap result_ok (whole_again IsSessionRecord session_bytes next_session (each_session_exact None) r fits)
