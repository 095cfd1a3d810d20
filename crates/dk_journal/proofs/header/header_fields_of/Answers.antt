use Rattle.std.proofs.Common.{◌≡◌, ℕ, ◌-◌, List, ◌++◌, length, replicate, take, drop, ap, ◌∙◌, arith}
use Rattle.std.proofs.lemmas.List.{append-nil, drop-replicate, take_all, length-drop, length-replicate}
use Rattle.std.specs.Int.{w16, w64}
use Rattle.dk_types.specs.Fields.{u16_spelling, u64_spelling}
use Rattle.dk_journal.proofs.Endian.{big_bytes-is}
use Rattle.dk_model.specs.Stores.{letters, header_fields}
use Rattle.dk_journal.specs.Headers.{store_header}
use Rattle.dk_journal.proofs.HeaderBytes.{joined, fields_length}
use Rattle.dk_journal.proofs.header.header_fields_of.Goals as goal

pub returns : goal.returns
unfolding u16_spelling u64_spelling
returns c =
    let f : c.write_u16.new.buf ≡ u16_spelling c.args.header.now.format = c.write_u16.ensures ∙ append-nil _ ∙ big_bytes-is w16 c.args.header.now.format in
    let e : c.write_u64.new.buf ≡ u64_spelling c.args.header.now.epoch = c.write_u64.ensures ∙ append-nil _ ∙ big_bytes-is w64 c.args.header.now.epoch in
    let g : c.as_slice-game.result.now ≡ c.args.header.now.game = c.as_slice-game.ensures.value in
    let zeros : List ℕ = replicate 44 0 in
    let none : take (44 - length c.as_slice-game.result.now) (drop (length c.as_slice-game.result.now) zeros) ≡ replicate (44 - length c.args.header.now.game) 0 =
    take_all (44 - length c.as_slice-game.result.now) (drop (length c.as_slice-game.result.now) zeros) (omega (arith, length-drop (length c.as_slice-game.result.now) zeros, length-replicate {A = ℕ} 44 0))
    ∙ drop-replicate (length c.as_slice-game.result.now) 44 0 ∙ ap (λ (k : ℕ). replicate (44 - k) 0) (ap length g) in
    let all : c.from_vec.result ≡ header_fields (store_header c.args.header.now) =
    c.from_vec.ensures
    ∙ joined _ _ _ _ _ _ _ _ _ _ _ _ _ _ _ _ (c.in_ok-extend_from_slice.ensures.items ∙ ap (λ (l : List ℕ). l ++ letters) c.new-bytes.ensures.items) c.in_ok-extend_from_slice-2.ensures.items c.in_ok-extend_from_slice-3.ensures.items
    c.in_ok-push.ensures.items c.in_ok-extend_from_slice-4.ensures.items c.in_ok-extend_from_slice-5.ensures.items
    f e (ap length g) g none in
    (all, ap length all ∙ fields_length (store_header c.args.header.now) (omega (arith, c.as_slice-game.ensures.id.most, ap length g)), c.as_slice-game.ensures.id)
