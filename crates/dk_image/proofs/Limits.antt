-- A longer limit admits what a shorter one does.
use Rattle.dk_types.specs.declared.durable.Durable.{Durable}
use Rattle.dk_model.specs.Entries.{IsObjectItem, IsPendingItem}
use Rattle.dk_model.specs.Images.{IsImageValue}
use Rattle.dk_entry.proofs.Limits.{list_more, object_more, pending_more}

pub image_more : (d : Durable) → IsImageValue 1 d → IsImageValue 2 d
image_more d is = record {
  commits = is.commits;
  next = is.next;
  objects = list_more (IsObjectItem 1) (IsObjectItem 2) object_more d.objects is.objects;
  names = is.names;
  tasks = list_more (IsPendingItem 1) (IsPendingItem 2) pending_more d.tasks is.tasks;
}
