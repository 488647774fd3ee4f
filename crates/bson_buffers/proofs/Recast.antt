-- From what must be written for a document and what was delivered to the table of statuses.
use Rattle.std.proofs.Common.{◌≡◌, ◌≤◌, ◌<◌, ℕ, length, refl, ap, subst, sym, ◌∙◌, inl, inr}
use Rattle.std.specs.Prelude.{◌⊎◌}
use Rattle.bson_kinds.specs.Text.{Bytes, Utf8}
use Rattle.bson_values.specs.Refusal.{WriteFault, Failure}
use Rattle.bson_shape.specs.Form.{Form}
use Rattle.bson_tree_recast.specs.Recast.{Recast, writes, unread, unwritten, recast_of, Unwritten}
use Rattle.bson_buffers.specs.Asked.{shape_of_bytes, DenotesShape}
use Rattle.bson_buffers.specs.Expected.{IsDelivered, IsForRecast, IsRecastRow}
use Rattle.bson_buffers.specs.Recasts.{recast_status, recast_status_at, IsRecast}
use Rattle.bson_buffers.specs.Buffers.{Call, Tells}
use Rattle.bson_buffers.specs.declared.status.Status.{Status}
use Rattle.bson_buffers.specs.declared.status.Status.TheVariants as statuses
use Rattle.bson_buffers.proofs.Checked.{nothing_written, no_shape_row}
use Rattle.bson_buffers.proofs.Delivery.{within_or_above, fits, lacks}

-- the status that must be returned at a notation
status_named : (shape bytes : Bytes) (places : ℕ) (s : Form) (r : Recast) → DenotesShape shape s → recast_of s bytes ≡ r → recast_status_at places bytes (shape_of_bytes shape) ≡ recast_status places r
status_named shape bytes places s r n is = ap (recast_status_at places bytes) n.asked ∙ ap (recast_status places) is

unwritten_status : (places : ℕ) (r : Recast) (f : Failure WriteFault) → Unwritten r f → recast_status places r ≡ statuses.WriteRefused
unwritten_status places (writes bytes) f h = absurd h
unwritten_status places (unread e) f h = absurd h
unwritten_status places (unwritten expected long) f h = refl

abbrev IsInTable : (shape bytes : Bytes) → Status → Call → Type 0
IsInTable shape bytes status c = IsRecastRow shape bytes status c × (status ≡ recast_status_at (length c.buffer.before) bytes (shape_of_bytes shape))

written_row : (shape bytes : Bytes) (place : ℕ) (output : Bytes) (said : Utf8) (status : Status) (c : Call) → IsForRecast shape bytes statuses.Done place output said → IsDelivered statuses.Done place output said status c
    → (length output ≤ length c.buffer.before) ⊎ (length c.buffer.before < length output) → IsInTable shape bytes status c
written_row shape bytes place output said status c h d (inl within) =
    let w = d.written within in (
      subst (λ s. IsRecastRow shape bytes s c) (sym w.0) (record {
        form = h.0;
        notation = h.1;
        output = output;
        recast = h.2;
        again = h.3;
        put = w.1;
        no_text = subst (Tells c) h.5 d.told;
        no_place = d.at ∙ h.4;
      }),
      w.0 ∙ sym (status_named shape bytes (length c.buffer.before) h.0 (writes output) h.1 h.2 ∙ fits (length c.buffer.before) output statuses.Done within),
    )
written_row shape bytes place output said status c h d (inr above) =
    let w = d.lacking above in (
      subst (λ s. IsRecastRow shape bytes s c) (sym w.0) (record {
        form = h.0;
        notation = h.1;
        output = output;
        recast = h.2;
        larger = w.1;
        no_text = subst (Tells c) h.5 d.told;
        no_place = d.at ∙ h.4;
      }),
      w.0 ∙ sym (status_named shape bytes (length c.buffer.before) h.0 (writes output) h.1 h.2 ∙ lacks (length c.buffer.before) output statuses.Done above),
    )

recast_row : (shape bytes : Bytes) (expected : Status) (place : ℕ) (output : Bytes) (said : Utf8) (status : Status) (c : Call) → IsForRecast shape bytes expected place output said → IsDelivered expected place output said status c
    → IsInTable shape bytes status c
recast_row shape bytes statuses.Done place output said status c h d = written_row shape bytes place output said status c h d (within_or_above (length output) (length c.buffer.before))
recast_row shape bytes statuses.ShapeRefused place output said status c h d =
    let w = nothing_written statuses.ShapeRefused place output said status c h.1 d in (
      subst (λ s. IsRecastRow shape bytes s c) (sym w.0) (no_shape_row shape statuses.ShapeRefused place output said status c h.0 h.1 d),
      w.0 ∙ sym (ap (recast_status_at (length c.buffer.before) bytes) h.0.asked),
    )
recast_row shape bytes statuses.ReadRefused place output said status c h d =
    let w = nothing_written statuses.ReadRefused place output said status c h.6 d in (
      subst (λ s. IsRecastRow shape bytes s c) (sym w.0) (record {
        form = h.0;
        notation = h.2;
        failure = h.1;
        recast = h.3;
        says = subst (Tells c) h.4 d.told;
        no_output = w.1;
        no_place = d.at ∙ h.5;
      }),
      w.0 ∙ sym (status_named shape bytes (length c.buffer.before) h.0 (unread h.1) h.2 h.3),
    )
recast_row shape bytes statuses.WriteRefused place output said status c h d =
    let w = nothing_written statuses.WriteRefused place output said status c h.6 d in (
      subst (λ s. IsRecastRow shape bytes s c) (sym w.0) (record {
        form = h.0;
        notation = h.2;
        failure = h.1;
        recast = h.3;
        says = subst (Tells c) h.4 d.told;
        no_output = w.1;
        no_place = d.at ∙ h.5;
      }),
      w.0 ∙ sym (status_named shape bytes (length c.buffer.before) h.0 (recast_of h.0 bytes) h.2 refl ∙ unwritten_status (length c.buffer.before) (recast_of h.0 bytes) h.1 h.3),
    )
recast_row shape bytes expected place output said status c h d = absurd h

by_row : (shape bytes : Bytes) (status : Status) (c : Call) → IsRecastRow shape bytes status c → (status ≡ recast_status_at (length c.buffer.before) bytes (shape_of_bytes shape)) ⊎ (status ≡ statuses.NoMemory)
    → IsRecast shape bytes status c
by_row shape bytes status c row complete = record {
  done = λ is. subst (λ s. IsRecastRow shape bytes s c) is row;
  buffer_too_small = λ is. subst (λ s. IsRecastRow shape bytes s c) is row;
  shape_refused = λ is. subst (λ s. IsRecastRow shape bytes s c) is row;
  read_refused = λ is. subst (λ s. IsRecastRow shape bytes s c) is row;
  write_refused = λ is. subst (λ s. IsRecastRow shape bytes s c) is row;
  no_memory = λ is. subst (λ s. IsRecastRow shape bytes s c) is row;
  complete = complete;
}

pub recast : (shape bytes : Bytes) (expected : Status) (place : ℕ) (output : Bytes) (said : Utf8) (status : Status) (c : Call) → IsForRecast shape bytes expected place output said → IsDelivered expected place output said status c
    → IsRecast shape bytes status c
recast shape bytes expected place output said status c h d = let r = recast_row shape bytes expected place output said status c h d in by_row shape bytes status c r.0 (inl r.1)
