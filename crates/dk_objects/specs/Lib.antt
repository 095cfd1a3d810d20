pub mod StampedObjects
